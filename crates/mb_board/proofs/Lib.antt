pub mod TornLemmas
mod Sectors
mod Fillings
mod Reaching
mod Falling

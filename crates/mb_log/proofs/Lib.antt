pub mod Added
pub mod Fronts
pub mod KeyLives
pub mod Pushes
pub mod Serials

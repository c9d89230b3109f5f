pub mod Roots
pub mod Flashes
pub mod Look
pub mod Calls

pub mod Ranges
pub mod Slotted

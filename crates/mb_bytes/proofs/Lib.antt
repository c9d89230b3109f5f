pub mod Exactly
pub mod Putting
pub mod Reading
pub mod Whole
pub mod InPlace

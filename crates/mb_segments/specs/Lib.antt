pub mod Beginnings
pub mod Bounds
pub mod Uncopied

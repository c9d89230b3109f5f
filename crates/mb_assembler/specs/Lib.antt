pub mod Labelled
pub mod Marks

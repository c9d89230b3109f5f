pub mod Beginnings
pub mod Feeding
pub mod Parts
pub mod Surveys
pub mod Writing

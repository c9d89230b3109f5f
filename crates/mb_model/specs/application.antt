pub mod Instructions
pub mod Application
pub mod Runs

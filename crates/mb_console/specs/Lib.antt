pub mod Words
pub mod Ending
pub mod Outputs
pub mod Forms
pub mod NumberLaws

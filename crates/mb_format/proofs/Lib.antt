pub mod Exact
pub mod Fields
pub mod Compositions
pub mod Examples
pub mod Rules
pub mod Bounds
pub mod Whole
pub mod Steps

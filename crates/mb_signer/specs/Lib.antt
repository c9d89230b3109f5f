pub mod Tree
pub mod Benches

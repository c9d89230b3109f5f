pub mod Calls
pub mod Demands
pub mod Runs
pub mod Secrets
pub mod Statements

pub mod Regions
pub mod Fates
pub mod Calls

pub mod Sectors
pub mod Calls

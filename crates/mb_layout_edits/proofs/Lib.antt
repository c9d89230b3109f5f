pub mod RegionParts
pub mod Rows
pub mod Walking

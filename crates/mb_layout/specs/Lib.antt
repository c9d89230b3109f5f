pub mod Bounds
pub mod Found
pub mod Parts
pub mod Uncopied
pub mod Plans
pub mod RegionReads

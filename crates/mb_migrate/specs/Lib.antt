pub mod Bounds
pub mod Entries
pub mod MigrationLaws
pub mod Parts
pub mod Readings

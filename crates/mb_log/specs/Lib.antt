pub mod Additions
pub mod Following
pub mod KeyLife

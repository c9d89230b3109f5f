pub mod Areas
pub mod LayerBytes
pub mod Sizes

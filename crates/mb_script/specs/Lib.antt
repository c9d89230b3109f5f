pub mod Reading
pub mod Drawing

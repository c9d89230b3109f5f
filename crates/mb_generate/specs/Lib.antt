pub mod Drawing
pub mod Orders
pub mod Scripts
pub mod Serving
pub mod NumberLaws

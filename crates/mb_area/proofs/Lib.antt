pub mod Rooted
pub mod Published

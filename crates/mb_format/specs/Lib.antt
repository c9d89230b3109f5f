pub mod Format
pub mod Combinators
pub mod Examples
pub mod Reading

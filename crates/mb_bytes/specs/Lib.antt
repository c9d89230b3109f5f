pub mod Ends
pub mod Reads
pub mod Puts
pub mod Example
pub mod ExampleLaw

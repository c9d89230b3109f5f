pub mod Inputs
pub mod TrustCommand
pub mod Names
pub mod Denials

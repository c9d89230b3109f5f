pub mod Names
pub mod Images
pub mod Chains
pub mod Signing

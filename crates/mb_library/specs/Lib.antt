pub mod Details
pub mod Signatures
pub mod Stated
pub mod Chains
pub mod Judging
pub mod Laws

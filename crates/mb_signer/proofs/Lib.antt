pub mod Chains
pub mod Nodes
pub mod Filling
pub mod Paths
pub mod Signed

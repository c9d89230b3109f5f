pub mod Bound
pub mod KeyUses
pub mod Seeds
pub mod Stated

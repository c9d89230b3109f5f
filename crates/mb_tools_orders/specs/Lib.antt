pub mod ShowOrder
pub mod Ordered
pub mod ShowKey
pub mod OrderLaws
pub mod Names
pub mod Telling

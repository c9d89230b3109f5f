pub mod Showing
pub mod Telling
pub mod AlikeOrders
pub mod NamedSignatures

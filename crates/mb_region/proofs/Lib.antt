pub mod Replaced
pub mod Wiped
pub mod Meant
pub mod Placed

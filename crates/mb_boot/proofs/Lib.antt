pub mod Completed
pub mod Settled
pub mod Booted
pub mod Signers
pub mod Joined

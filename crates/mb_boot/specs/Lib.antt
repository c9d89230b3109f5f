pub mod Completions
pub mod Settling
pub mod Booting
pub mod Signers
pub mod Calls

pub mod Key
pub mod Winternitz
pub mod Merkle
pub mod Signing

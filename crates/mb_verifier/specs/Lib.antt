pub mod Checked
pub mod Ends
pub mod Entries
pub mod Lines
pub mod SaidParts
pub mod SignerEntries
pub mod Signers

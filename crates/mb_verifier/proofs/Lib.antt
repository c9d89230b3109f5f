pub mod Judging
pub mod Listed
pub mod SignerLemmas
pub mod Stating
pub mod Verdicts

pub mod HssKeyLemmas
pub mod VerificationLemmas
pub mod Digits
pub mod LevelLemmas
pub mod MakerLemmas
pub mod MakerFormatLemmas
pub mod VerifyLemmas
pub mod NumberLemmas

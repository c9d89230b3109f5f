pub mod AnswerLemmas
pub mod MadeLemmas
pub mod SilentLemmas
pub mod SealedLemmas
pub mod BytesLemmas
pub mod ReachLemmas

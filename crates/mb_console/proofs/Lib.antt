pub mod WordLemmas
pub mod CommandLemmas
pub mod Completing
pub mod OutputLemmas
pub mod Leading

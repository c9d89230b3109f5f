pub mod TableLemmas
pub mod Requests
pub mod CommandLineLemmas
pub mod EndCounterProofs

pub mod AppLemmas
pub mod AssemblyLemmas
pub mod InputLemmas
pub mod SeeingLemmas
pub mod AppcodeLemmas
pub mod CallcodeLemmas

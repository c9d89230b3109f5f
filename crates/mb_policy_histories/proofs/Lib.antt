pub mod TrustLemmas
pub mod CodeLemmas
pub mod ShorteningLemmas

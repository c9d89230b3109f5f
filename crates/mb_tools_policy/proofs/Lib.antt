pub mod TrustLemmas

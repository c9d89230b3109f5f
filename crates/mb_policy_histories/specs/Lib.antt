pub mod TrustLaws
pub mod CodeLaws
pub mod ShorteningLaws

pub mod SaidLemmas
pub mod ClearTexts
pub mod ReplyLemmas
pub mod WorkloadLemmas
pub mod TrustLemmas
pub mod SectorLemmas

pub mod LayerLaws
pub mod StepLaws
pub mod TextLaws
pub mod NumberLaws
pub mod MeaningLaws
pub mod SectorLaws
pub mod ChainLaws
pub mod TrustLaws

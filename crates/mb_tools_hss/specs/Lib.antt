pub mod MakerInputs
pub mod HssKeygen
pub mod Endorse
pub mod Endorsed
pub mod ShowMaker
pub mod Names
pub mod Unendorsed
pub mod NumberLaws

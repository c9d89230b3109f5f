pub mod LoadLaws
pub mod EndorsementLaws
pub mod EndLaws
pub mod AppImageLaws

pub mod OfficerLaws
pub mod RunLaws
pub mod IndexLaws
pub mod BirthLaws
pub mod StatementLaws

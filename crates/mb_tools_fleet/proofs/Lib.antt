pub mod FleetLemmas
pub mod EnrolLemmas
pub mod EnrolLaws
pub mod DevicesLaws

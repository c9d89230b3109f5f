pub mod FleetCommand
pub mod EnrolCommand
pub mod RegisterCommands
pub mod FleetWords
pub mod Refusals
pub mod FleetLaws

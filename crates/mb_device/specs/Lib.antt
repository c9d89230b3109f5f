pub mod Sound
pub mod Stepping
pub mod Regions
pub mod Served
pub mod KeptTrees
pub mod Calls
pub mod TreeCounterExamples

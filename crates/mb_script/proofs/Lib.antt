pub mod Parts
pub mod LineKinds
pub mod Written
pub mod Drawings
pub mod ScriptReading
mod EventLines

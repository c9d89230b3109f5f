pub mod Spared
mod Remembered
mod Counting
mod Judgement
mod Headers
mod Planned
mod Committed
mod Answered
pub mod KeptTrees

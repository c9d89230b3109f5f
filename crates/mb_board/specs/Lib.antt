pub mod Calls
pub mod Reach
pub mod Cuts
pub mod Kept
pub mod Shown
pub mod Sound

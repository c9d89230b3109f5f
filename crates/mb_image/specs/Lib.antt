pub mod Ends
pub mod Forms
pub mod Keys
pub mod Losses
pub mod Segments
pub mod Stored
pub mod Verified

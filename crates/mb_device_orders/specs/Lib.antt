pub mod Calls
pub mod Remembering
pub mod Obeying
pub mod Planning

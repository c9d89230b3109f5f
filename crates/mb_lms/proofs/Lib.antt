pub mod Digits
pub mod Climbing
pub mod Form
pub mod Spelling
pub mod Checked

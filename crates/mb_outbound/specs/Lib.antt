pub mod Binding
pub mod Calls
pub mod Using
pub mod KeptTrees

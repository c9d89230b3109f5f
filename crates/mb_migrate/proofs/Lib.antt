pub mod Areas
pub mod EntryLists
pub mod Migrations
pub mod Reading
pub mod Sizes

pub mod Edits
pub mod StoredRegion
pub mod Walks

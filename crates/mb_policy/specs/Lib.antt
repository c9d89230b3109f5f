pub mod Policies
pub mod Judging
pub mod Laws
pub mod Examples
pub mod Meanings
pub mod Reading
pub mod Tables
pub mod NumberLaws

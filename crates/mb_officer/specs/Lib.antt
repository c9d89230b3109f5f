pub mod Drafting

pub mod Parts
pub mod Digits
pub mod NextLines
pub mod OneLine

pub mod Sectored

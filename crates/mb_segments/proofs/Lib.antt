mod Begun
mod Sizes
mod Spelled

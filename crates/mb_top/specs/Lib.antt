pub mod CommandTable
pub mod Top
pub mod Usage
pub mod Program
pub mod EndCounterExamples

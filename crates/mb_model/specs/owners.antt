pub mod Layers
pub mod Rules
pub mod Log
pub mod Lives
pub mod Regions
pub mod Born

pub mod KeyFormat
pub mod LayerFormat
pub mod EntryFormat
pub mod OrderFormat
pub mod ChainFormat
pub mod RootFormat
pub mod HeaderFormat
pub mod RegionFormat

pub mod HistoryCommand
pub mod HistoryLaws
pub mod HistoryShown
pub mod LayersShown
pub mod Names
pub mod ShowimageCommand
pub mod ShownLaws
pub mod StateShown

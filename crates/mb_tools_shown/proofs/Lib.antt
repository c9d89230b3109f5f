pub mod HistoryLemmas
pub mod StateLemmas
pub mod TextLemmas
pub mod FittingEntries
pub mod AlikeLayers
pub mod AlikeHistories

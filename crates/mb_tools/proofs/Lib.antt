pub mod ImageLemmas
pub mod MigrateLemmas
pub mod SignLemmas
pub mod FactoryLemmas
pub mod ChainLemmas

pub mod EndorseLemmas

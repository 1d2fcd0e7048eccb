-- Lemmas of frames.
pub mod HandedLemmas

-- Lemmas about what is written.
pub mod PrintableLemmas
pub mod ReadLemmas
pub mod TagLemmas

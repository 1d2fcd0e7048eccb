-- Lemmas about what a proxy answers.
pub mod CauseLemmas

-- Lemmas about what an intermediary sends.
pub mod FieldLemmas

-- Lemmas about what crosses to C.
mod BorderLemmas

-- Lemmas about calls over bytes.
mod ResultLemmas
mod FormLemmas
mod ChoiceLemmas

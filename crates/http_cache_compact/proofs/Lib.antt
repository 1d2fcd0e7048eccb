-- Lemmas about the compact form.
mod FieldLemmas
mod ValueLemmas
mod TextLemmas
mod PairLemmas
mod BackLemmas
mod ReadsBackLemmas

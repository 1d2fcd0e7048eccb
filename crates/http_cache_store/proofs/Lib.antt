-- Lemmas on texts and lists, and on how long a stored response is of use.
pub mod EndingLemmas
pub mod PathLemmas
mod WorthLemmas

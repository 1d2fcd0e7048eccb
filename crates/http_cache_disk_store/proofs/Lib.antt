-- Lemmas on what the store stores, and on what its parts promise.
mod ApartLemmas
pub mod LoadLemmas
mod LostLemmas
pub mod PackedLemmas
pub mod SumLemmas

-- Lemmas of a caching client.
pub mod CourseLemmas
pub mod HitLemmas
pub mod InvalidateLemmas
pub mod KeepLemmas
pub mod RenewalLemmas
pub mod StandInLemmas
pub mod TakenLemmas
pub mod Theorems

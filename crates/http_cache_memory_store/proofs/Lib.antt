-- Lemmas on what is stored.
pub mod BoundsLemmas
mod FitLemmas
mod Fronts
mod HeldLemmas
pub mod IdLemmas
pub mod ListLemmas
mod Lookups
mod MapLemmas
pub mod OnceLemmas
mod Outcomes
mod RoomLemmas
mod ShownLemmas
mod SizeLemmas
mod Sums
mod SweepLemmas
mod TextLemmas
pub mod ToldLemmas
pub mod Totals

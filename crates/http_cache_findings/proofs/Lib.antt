-- Lemmas about what is found.
pub mod ChangeLemmas
pub mod ChangesLemmas
pub mod CountsLemmas
pub mod PlainLemmas
pub mod ReportLemmas
pub mod VisitLemmas

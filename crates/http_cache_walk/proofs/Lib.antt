pub mod ListLemmas
pub mod SourcesLemmas
pub mod StoredLemmas
pub mod WalkLemmas

pub mod FieldLemmas
pub mod HeadsLemmas
pub mod MendLemmas

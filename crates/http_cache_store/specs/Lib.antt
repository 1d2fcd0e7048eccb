-- What a client stores, under which text, and how long it is kept.
pub mod Reference
pub mod Store
pub mod Target
pub mod Worth

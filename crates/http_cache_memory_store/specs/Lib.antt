-- How a store in memory keeps what it stores.
pub use Rattle.http_cache_store.specs.Store
pub use Rattle.http_cache_store.specs.Target
pub mod Contents
pub mod Held
pub mod Index
pub mod Removal
pub mod Size
pub mod Stored

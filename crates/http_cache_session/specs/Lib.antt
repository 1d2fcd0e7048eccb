pub mod Session
pub mod State

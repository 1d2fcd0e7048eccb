pub mod Failure
pub mod Heads
pub mod Texts

pub mod Compact
pub mod Written

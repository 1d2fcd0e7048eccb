pub mod Printable
pub mod Tags
pub mod Output

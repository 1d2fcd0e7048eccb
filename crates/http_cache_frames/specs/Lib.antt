pub mod Front
pub mod Line
pub mod Reply
pub mod Served

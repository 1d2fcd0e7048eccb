-- What a store in a directory stores.
pub mod Contents
pub mod Cost
pub mod Disk
pub mod Packed
pub mod Sum

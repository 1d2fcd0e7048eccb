pub mod Form
pub mod FormData
pub mod Lists
pub mod Pairs
pub mod HeaderObject
pub mod Stored
pub mod Unread
pub mod ReadBack

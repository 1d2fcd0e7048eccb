-- What a caching client answers, sends and stores.
pub mod Ask
pub mod Contact
pub mod Course
pub mod Fetch
pub mod Fetched
pub mod Hit
pub mod Keep
pub mod Make
pub mod Receive
pub mod StandIn
pub mod Taken

-- What a caching proxy forwards, and what it answers.
pub mod Origin
pub mod Failure
pub mod Write
pub mod Proxy

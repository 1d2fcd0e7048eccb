pub mod Form
pub mod Cause
pub mod Facts
pub mod Answer
pub mod Next
pub mod Message
pub mod Choice

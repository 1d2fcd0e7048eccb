-- What HTTP demands of an intermediary.
pub mod Field
pub mod Host
pub mod Via
pub mod Length
pub mod Refusal
pub mod Request
pub mod Response
pub mod Generated

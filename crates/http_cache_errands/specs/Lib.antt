pub mod UnderWay
pub mod Bodies
pub mod Invalidations
pub mod Void

pub mod Reason
pub mod StructuredField
pub mod Member
pub mod CacheStatus
pub mod ReasonText
pub mod Rows

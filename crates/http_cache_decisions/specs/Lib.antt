-- How a client compares requests, what it answers with stored responses, and what it stores of received ones.
pub mod Asking
pub mod Complete
pub mod Failure
pub mod Freshen
pub mod Invalidate
pub mod Judge
pub mod Needed
pub mod Outgoing
pub mod Plan
pub mod Receipt
pub mod Renewal
pub mod Reply
pub mod Report
pub mod StoredHead
pub mod Storing

-- Lemmas on the fields of requests, on what is found among stored responses, on the fields of a 304, on superseded ids, on
-- what a response removes, on the head that is stored, on its room, and on what can be sent of it.
pub mod FindLemmas
pub mod HeadLemmas
pub mod InvalidateLemmas
mod MarkLemmas
pub mod NeededLemmas
mod OutgoingLemmas
pub mod PlanLemmas
mod RenewalLemmas
pub mod ReplyLemmas
pub mod RoomLemmas
pub mod SentLemmas

mod HeadLemmas
mod CountLemmas
mod FailureLemmas
mod WholeLemmas

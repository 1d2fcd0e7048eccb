mod LineEndLemmas
mod ServedLemmas
mod TurnLemmas

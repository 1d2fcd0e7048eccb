-- The targets so far are recorded, and no token gets lower.
use Rattle.std.proofs.Common.{◌≤◌, ◌<◌, ℕ, List, slice_index_or}
use Rattle.http_cache_store.specs.Target.{text_of}
use Rattle.http_cache_store.specs.declared.target.Target.{Target}
use Rattle.http_cache_errands.specs.Invalidations.{last_of}
use Rattle.http_cache_errands.proofs.invalidations.Invalidations.add_all.Given as goal

abbrev pub invariant-loop-target : goal.invariant-loop-target
invariant-loop-target l =
    ((k : ℕ) (d : Target) → k < l.target-index
    → l.next_token ≤ last_of l.self.floor l.self.by_text (text_of (slice_index_or l.targets k d)))
    × ((text : List ℕ) → last_of l.initial.self.floor l.initial.self.by_text text ≤ last_of l.self.floor l.self.by_text text)

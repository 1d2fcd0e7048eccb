-- What is left are the last entries.
use Rattle.std.proofs.Common.{◌≡◌, ◌++◌, ℕ, List}
use Rattle.http_cache_errands.specs.declared.errands.UnderWay.{UnderWay}
use Rattle.http_cache_errands.proofs.errands.UnderWays.page_for.Given as goal

abbrev pub invariant-loop-token : goal.invariant-loop-token
invariant-loop-token l =
    (goal.iterator-loop-token).can_next l.token-iterator ×
    (goal.iterator-loop-token).is_finite l.token-iterator ×
    ((done : List (ℕ × UnderWay)) × (l.self.by_token.entries ≡ done ++ l.token-iterator))

-- Which responses may be older than an invalidation of their target, so that they aren't stored (RFC 9111, section 4.4).
use Rattle.std.specs.Prelude.{ℕ, List, Bool, false, IfSome, nat_lt}
use Rattle.std.specs.Option.{option_map_or}
use Rattle.std.specs.BTreeMap.{get}
use Rattle.std.specs.Ordering.{nat_cmp}
use Rattle.http_cache_errands.specs.Bodies.{IsUnstorable}
use Rattle.http_cache_errands.specs.Invalidations.{last_of}
use Rattle.http_cache_errands.specs.UnderWay.{ByToken, target_at}
use Rattle.http_cache_errands.specs.declared.invalidations.Invalidations.{Invalidations}

-- the token that was assigned next when the target with the text was invalidated last, or 0
abbrev pub last_invalidation : Invalidations → List ℕ → ℕ
last_invalidation all text = last_of all.floor all.by_text text

-- the request with the token was sent before the last invalidation of its target
abbrev pub is_void : Invalidations → ByToken → ℕ → Bool
is_void all requests token = option_map_or (λ text. nat_lt token (last_invalidation all text)) (target_at requests token) false

-- the response to the request with the token isn't stored
abbrev pub IsUnstorableAt : ByToken → ℕ → Type 0
IsUnstorableAt requests token = IfSome (get nat_cmp requests token) (λ u. IfSome u.errand IsUnstorable)

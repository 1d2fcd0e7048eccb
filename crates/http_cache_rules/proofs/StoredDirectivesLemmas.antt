-- Directives are found as before, after a conflict or a Pragma adds one.
use Rattle.std.proofs.Common.{◌≡◌, ℕ, Bool, true, false, ◌||◌, List, codes, is_some, refl, ap, ◌∙◌, bytes_eq}
use Rattle.http_cache_fields.specs.Directives.{Directive, value_under, has, must_revalidate, with_conflict}
use Rattle.http_cache_fields.specs.Pragma.{no_cache, with_no_cache}
use Rattle.http_cache_fields.proofs.FirstPieceLemmas.{value_under-set_other, value_under-set_same}
use Rattle.http_cache_fields.proofs.FirstPieceLemmas.{value_under-with_conflict}

with_no_cache-other : (said : Bool) (ds : List Directive) (n : List ℕ)
    → bytes_eq n (codes "no-cache") ≡ false → value_under (with_no_cache said ds) n ≡ value_under ds n
with_no_cache-other true ds n apart = value_under-set_other ds no_cache n apart
with_no_cache-other false ds n apart = refl

pub found-other : (said conflict : Bool) (ds : List Directive) (n : List ℕ)
    → bytes_eq n (codes "no-cache") ≡ false → bytes_eq n (codes "must-revalidate") ≡ false
    → value_under (with_no_cache said (with_conflict conflict ds)) n ≡ value_under ds n
found-other said conflict ds n apart other =
    with_no_cache-other said (with_conflict conflict ds) n apart
    ∙ value_under-with_conflict conflict ds n other

pub found-no_cache : (said conflict : Bool) (ds : List Directive)
    → has (with_no_cache said (with_conflict conflict ds)) (codes "no-cache")
    ≡ (said || has ds (codes "no-cache"))
found-no_cache true conflict ds = ap is_some (value_under-set_same (with_conflict conflict ds) no_cache)
found-no_cache false conflict ds = ap is_some (value_under-with_conflict conflict ds (codes "no-cache") refl)

pub found-must_revalidate : (said conflict : Bool) (ds : List Directive)
    → has (with_no_cache said (with_conflict conflict ds)) (codes "must-revalidate")
    ≡ (conflict || has ds (codes "must-revalidate"))
found-must_revalidate said conflict ds =
    ap is_some (with_no_cache-other said (with_conflict conflict ds) (codes "must-revalidate") refl)
    ∙ by conflict
  where
    by : (b : Bool) → has (with_conflict b ds) (codes "must-revalidate") ≡ (b || has ds (codes "must-revalidate"))
    by true = ap is_some (value_under-set_same ds must_revalidate)
    by false = refl

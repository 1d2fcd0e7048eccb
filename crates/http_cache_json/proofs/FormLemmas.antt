-- A list of two, and its items.
use Rattle.std.proofs.Common.{◌≡◌, ◌<◌, ◌≤◌, List, [], ◌∷◌, length, None, refl, arith}
use Rattle.serde_json.specs.View.{items_view}
use Rattle.serde_json.specs.declared.value.Value.{Value}
use Rattle.http_cache_json.specs.Form.{two_of}

pub two_of_fewer : (vs : List Value) → length vs < 2 → two_of (items_view vs) ≡ None
two_of_fewer [] h = refl
two_of_fewer (a ∷ []) h = refl
two_of_fewer (a ∷ b ∷ vs) h = absurd (omega arith)

pub two_of_more : (vs : List Value) → 3 ≤ length vs → two_of (items_view vs) ≡ None
two_of_more [] h = refl
two_of_more (a ∷ []) h = refl
two_of_more (a ∷ b ∷ []) h = absurd (omega arith)
two_of_more (a ∷ b ∷ d ∷ vs) h = refl

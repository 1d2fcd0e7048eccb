-- The requests under way, by token.
use Rattle.std.specs.Prelude.{◌≡◌, ◌==◌, ℕ, List, Bool, false, Option, None, option_map, option_and_then, unwrap_or, nat_eq, if◌then◌else◌}
use Rattle.std.specs.List.{list_any}
use Rattle.std.specs.BTreeMap.{BTreeMap, get, values}
use Rattle.std.specs.Ordering.{nat_cmp}
use Rattle.http_cache_store.specs.Target.{text_of}
use Rattle.http_cache_errands.specs.declared.errands.Errand.{Errand}
use Rattle.http_cache_errands.specs.declared.errands.Errand.TheVariants.{Check}
use Rattle.http_cache_errands.specs.declared.errands.UnderWay.{UnderWay}

abbrev pub ByToken : Type 0
ByToken = BTreeMap ℕ UnderWay

abbrev pub id_at : ByToken → ℕ → Option ℕ
id_at requests token = option_map (λ r. r.id) (get nat_cmp requests token)

-- the token belongs to a request with this id or to none, and no other token changes
abbrev pub Changes : ByToken → ℕ → Option ℕ → ByToken → Type 0
Changes before token id after =
    (other : ℕ) → id_at after other ≡ (if nat_eq token other then id else id_at before other)

abbrev pub KeepsIds : ByToken → ByToken → Type 0
KeepsIds before after = (token : ℕ) → id_at after token ≡ id_at before token

-- the stored response that a request validates
abbrev pub validated_by : Errand → Option ℕ
validated_by (Check v) = option_map (λ id. id.0) v.id
validated_by _ = None

abbrev pub validated : UnderWay → Option ℕ
validated u = option_and_then validated_by u.errand

abbrev pub validates : ℕ → UnderWay → Bool
validates id u = unwrap_or (option_map (λ v. v == id) (validated u)) false

-- a request under way validates the stored response
abbrev pub are_validating : ℕ → ByToken → Bool
are_validating id requests = list_any (validates id) (values requests)

abbrev pub validated_at : ByToken → ℕ → Option ℕ
validated_at requests token = option_and_then validated (get nat_cmp requests token)

-- the text of the target for which a response may be stored
abbrev pub target_of : UnderWay → Option (List ℕ)
target_of u = option_map text_of u.target

abbrev pub target_at : ByToken → ℕ → Option (List ℕ)
target_at requests token = option_and_then target_of (get nat_cmp requests token)

-- What to change first: the urls whose advice saves most.
use Rattle.std.specs.Prelude.{◌≡◌, ℕ, ◌-◌, ◌^◌, ◌&&◌, nat_lt, Bool, List, [], ◌∷◌, slice_get, codes, string_bytes, if◌then◌else◌}
use Rattle.std.specs.List.{flat_map, enumerate_from}
use Rattle.std.specs.List.Sorted.{IsPermutation, IsSorted}
use Rattle.std.specs.Option.{option_map_or}
use Rattle.http_cache_findings.specs.declared.counts.Counts.{Counts}
use Rattle.http_cache_findings.specs.Counts.{label_of, total_in}
use Rattle.http_cache_findings.specs.declared.picks.Base.{Base}
use Rattle.http_cache_findings.specs.declared.picks.Base.TheVariants.{Later, Visit}
use Rattle.http_cache_findings.specs.declared.remedy.Remedy.{Remedy}
use Rattle.http_cache_findings.specs.declared.changes.Change.{Change}
use Rattle.std.specs.Ordering.{nat_cmp, ordering_then}
use Rattle.std.specs.declared.cmp.Ordering.{Ordering}

-- the cost of the requests for a url, in the later loads or at a visit
abbrev pub price : Base → Counts → List ℕ → ℕ
price Later c url = total_in c (label_of (codes "later_cost") url)
price Visit c url = total_in c (label_of (codes "bytes") url)

-- a change with its costs: those now and those with what is advised
abbrev pub change_by : Base → Counts → Counts → ℕ → Remedy → Change
change_by base now after index m = record {
  remedy = index;
  pick = m.pick;
  cost_now = price base now (string_bytes m.url);
  cost_then = price base after (string_bytes m.url);
}

abbrev pub by_key : ℕ × ℕ → ℕ × ℕ → Ordering
by_key x y = ordering_then (nat_cmp x.0 y.0) (nat_cmp x.1 y.1)

abbrev pub saves : Change → Bool
saves c = nat_lt c.cost_then c.cost_now

-- the key of a change that saves bytes, which is before the keys of changes that save fewer
abbrev pub key_by : ℕ → Change → List (ℕ × ℕ)
key_by index c = if c.pick.is_much && saves c then (2 ^ 64 - 1 - (c.cost_now - c.cost_then), index) ∷ [] else []

abbrev pub key_at : Base → Counts → Counts → ℕ × Remedy → List (ℕ × ℕ)
key_at base now after at = key_by at.0 (change_by base now after at.0 at.1)

abbrev pub keys_of : Base → Counts → Counts → List Remedy → List (ℕ × ℕ)
keys_of base now after ms = flat_map (key_at base now after) (enumerate_from 0 ms)

abbrev pub change_if : Change → List Change
change_if c = if saves c then c ∷ [] else []

abbrev pub change_at : Base → Counts → Counts → List Remedy → ℕ × ℕ → List Change
change_at base now after ms key =
    option_map_or (λ (m : Remedy). change_if (change_by base now after key.1 m)) (slice_get ms key.1) []

-- the changes that save bytes, the greatest saving first
pub record AreChanges (base : Base) (now after : Counts) (ms : List Remedy) (cs : List Change) : Type 0 where
  pub order : List (ℕ × ℕ)
  pub each_once : IsPermutation (keys_of base now after ms) order
  pub ascending : IsSorted by_key order
  pub are_changes : cs ≡ flat_map (change_at base now after ms) order

-- The output by url, for each url that a store could have answered.
use Rattle.std.specs.Prelude.{ℕ, ◌==◌, ◌&&◌, Bool, true, false, List, [], ◌∷◌, ◌++◌, take, codes, if◌then◌else◌}
use Rattle.std.specs.List.{flat_map, enumerate_from}
use Rattle.std.specs.Option.{option_map_or}
use Rattle.http_cache_walk.specs.Row.{RowSeen, AuditVerdictSeen}
use Rattle.http_cache_walk.specs.Order.{target_of}
use Rattle.http_cache_walk.specs.declared.row.Outcome.{Outcome}
use Rattle.http_cache_walk.specs.declared.row.Outcome.TheVariants.{Apart, Fresh, Validate, Refetch, Miss, MissVary}
use Rattle.http_cache_findings.specs.Counts.{Addition, label_of, when, total_of}
use Rattle.http_cache_findings.specs.Cost.{is_asked_reading}

-- ---- sums for each url

abbrev pub is_fresh : Outcome → Bool
is_fresh Apart = false
is_fresh Fresh = true
is_fresh Validate = false
is_fresh Refetch = false
is_fresh Miss = false
is_fresh MissVary = false

abbrev pub is_hit : RowSeen → Bool
is_hit r = option_map_or (λ (v : AuditVerdictSeen). is_fresh v.outcome) r.verdict false

unfoldable pub url_sums : List ℕ → RowSeen → List Addition
url_sums url r =
    (label_of (codes "requests") url, 1) ∷ (label_of (codes "sent") url, r.recorded.printed.sent)
    ∷ (when r.repeated (label_of (codes "repeated") url, 1) ++ when (is_hit r) (label_of (codes "fresh") url, 1))

abbrev pub is_asked_row : RowSeen → Bool
is_asked_row r = is_asked_reading r.recorded.reading

abbrev pub url_additions : RowSeen → List Addition
url_additions r = if is_asked_row r then url_sums (target_of r.recorded) r else []

-- ---- the first request of each url

-- the row is the first if the earlier rows have no sum for its url
abbrev pub first_by : (List ℕ → ℕ) → ℕ × RowSeen → List ℕ
first_by sum at =
    if is_asked_row at.1 && (sum (label_of (codes "requests") (target_of at.1.recorded)) == 0) then at.0 ∷ [] else []

abbrev pub first_at : List RowSeen → ℕ × RowSeen → List ℕ
first_at rows at = first_by (total_of (flat_map url_additions (take at.0 rows))) at

-- in the order of the walk
abbrev pub firsts : List RowSeen → List ℕ
firsts rows = flat_map (first_at rows) (enumerate_from 0 rows)

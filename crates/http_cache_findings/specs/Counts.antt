-- The counts of an audit.
use Rattle.std.specs.Prelude.{◌≡◌, ℕ, ◌+◌, ◌-◌, ◌^◌, min, nat_le, nat_lt, ◌&&◌, ◌||◌, Bool, true, false, List, [], ◌∷◌, ◌++◌}
use Rattle.std.specs.Prelude.{sum_by, codes, bytes_eq, unwrap_or, Option, Some, None, if◌then◌else◌, String, string_bytes}
use Rattle.std.specs.declared.alloc.Global.{Global}
use Rattle.std.specs.BTreeMap.{get_by_text}
use Rattle.http_cache_walk.specs.declared.row.Again.{Again}
use Rattle.http_cache_walk.specs.declared.row.Again.TheVariants.{Changed, InFull, Unasked, Unknown}
use Rattle.http_cache_findings.specs.declared.counts.Counts.{Counts}
use Rattle.http_cache_walk.specs.Row.{RowSeen}

-- an amount that is added under a label
abbrev pub Addition : Type 0
Addition = List ℕ × ℕ

unfoldable pub label_of : List ℕ → List ℕ → List ℕ
label_of group name = group ++ (codes "/" ++ name)

abbrev pub when : Bool → Addition → List Addition
when holds a = if holds then a ∷ [] else []

abbrev pub amount_under : List ℕ → Addition → ℕ
amount_under label a = if bytes_eq a.0 label then a.1 else 0

abbrev pub total_of : List Addition → List ℕ → ℕ
total_of adds label = min (sum_by (amount_under label) adds) (2 ^ 64 - 1)

abbrev pub total_in : Counts → List ℕ → ℕ
total_in c label = unwrap_or (get_by_text c.by_label label) 0

-- each count is the sum of the additions under its label
abbrev pub HoldsCounts : List Addition → Counts → Type 0
HoldsCounts adds c = (label : List ℕ) → total_in c label ≡ total_of adds label

unfoldable pub CountsAlso : List Addition → Counts → Counts → Type 0
CountsAlso adds old new = (before : List Addition) → HoldsCounts before old → HoldsCounts (before ++ adds) new

abbrev pub is_in_full : Option Again → Bool
is_in_full None = false
is_in_full (Some Changed) = false
is_in_full (Some InFull) = true
is_in_full (Some Unasked) = false
is_in_full (Some Unknown) = false

-- the request is repeated, and has `no-cache`
abbrev pub is_forced : RowSeen → Bool
is_forced r = r.no_cache && r.repeated

-- ---- what the counts show

-- at least half of the requests, and not none
abbrev pub is_half : ℕ → ℕ → Bool
is_half part whole = nat_lt 0 part && nat_le whole (min (part + part) (2 ^ 64 - 1))

-- the recording seems to be made with the browser's cache off, or by a hard reload
abbrev pub is_noticed : Counts → Bool
is_noticed c =
    is_half (total_in c (codes "counts/no_cache")) (total_in c (codes "kinds/asked"))
    || is_half (total_in c (codes "counts/no_cache_repeated")) (total_in c (codes "counts/repeated"))

-- ---- all counts

abbrev pub CountSeen : Type 0
CountSeen = List ℕ × ℕ

abbrev pub count_seen : String Global × ℕ → CountSeen
count_seen c = (string_bytes c.0, c.1)

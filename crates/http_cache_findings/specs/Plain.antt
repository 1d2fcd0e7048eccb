-- Queries that change while the response doesn't, and a recording without them.
use Rattle.std.specs.Prelude.{ℕ, ◌==◌, ◌&&◌, nat_lt, nat_eq, Bool, List, [], ◌∷◌, map, drop, codes, bytes_eq, string_bytes, option_map, if◌then◌else◌}
use Rattle.std.specs.List.{flat_map, list_any, starts_with, before_first}
use Rattle.http_cache_recording.specs.Entry.{RecordedSeen}
use Rattle.http_cache_findings.specs.declared.counts.Counts.{Counts}
use Rattle.http_cache_findings.specs.Counts.{Addition, CountSeen, count_seen, label_of, total_in}
use Rattle.http_cache_findings.specs.declared.plain.Changing.{Changing}
use Rattle.http_cache_findings.specs.Queries.{base_of}

-- ---- which there are

abbrev pub changing_seen : Changing → List ℕ × ℕ
changing_seen c = (string_bytes c.base, c.urls)

-- the base before a mark
abbrev pub front_of : List ℕ → List ℕ
front_of marked = before_first (λ b. b == 10) marked

-- several urls have the base with one mark, and none has it with another one
abbrev pub changing_if : (List ℕ → ℕ) → List ℕ → ℕ → List (List ℕ × ℕ)
changing_if sum base n =
    if nat_lt 1 n && (sum (label_of (codes "base") base) == n) then (base, n) ∷ [] else []

abbrev pub marks : List ℕ
marks = codes "marked/"

abbrev pub changing_at : (List ℕ → ℕ) → CountSeen → List (List ℕ × ℕ)
changing_at sum l = if starts_with nat_eq l.0 marks then changing_if sum (front_of (drop 7 l.0)) l.1 else []

-- the urls whose query changes while their response doesn't, by their bases
abbrev pub changing_in : Counts → List (List ℕ × ℕ)
changing_in bases = flat_map (changing_at (total_in bases)) (map count_seen bases.by_label.entries)

-- ---- a recording without them

abbrev pub has_base : List ℕ → List ℕ × ℕ → Bool
has_base base one = bytes_eq one.0 base

abbrev pub is_base : List (List ℕ × ℕ) → List ℕ → Bool
is_base cs base = list_any (has_base base) cs

-- a url without its query, if that changes
abbrev pub plain_by : (List ℕ → Bool) → List ℕ → List ℕ
plain_by changes url = if changes (base_of url) then base_of url else url

abbrev pub plain_recorded_by : (List ℕ → Bool) → RecordedSeen → RecordedSeen
plain_recorded_by changes r =
    record r { printed = record r.printed { url = option_map (plain_by changes) r.printed.url } }

abbrev pub plain_recorded : List (List ℕ × ℕ) → RecordedSeen → RecordedSeen
plain_recorded cs r = plain_recorded_by (is_base cs) r

-- ---- bases are looked up by counts

abbrev pub base_addition : List ℕ × ℕ → List Addition
base_addition c = (label_of (codes "changing") c.0, 1) ∷ []

abbrev pub is_counted : (List ℕ → ℕ) → List ℕ → Bool
is_counted sum base = nat_lt 0 (sum (label_of (codes "changing") base))

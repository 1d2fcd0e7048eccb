-- The costs of a later visit, which repeats the requests of the first load.
use Rattle.std.specs.Prelude.{ℕ, ℤ, ◌-◌, ◌==◌, ◌&&◌, nat_lt, Bool, true, false, List, [], ◌++◌, length, codes}
use Rattle.std.specs.Prelude.{is_some, unwrap_or, slice_get, Option, Some, None, option_map, option_and_then, if◌then◌else◌}
use Rattle.std.specs.List.{flat_map, find, enumerate_from, reduce, AllZip}
use Rattle.std.specs.Int.{int_max}
use Rattle.std.specs.Option.{option_map_or, option_to_list}
use Rattle.http_uri.specs.declared.uri.Uri.{Uri}
use Rattle.http_cache_semantics.specs.Options.{Options}
use Rattle.http_cache_recording.specs.Entry.{RecordedSeen, EntrySeen}
use Rattle.http_cache_walk.specs.declared.row.Outcome.{Outcome}
use Rattle.http_cache_walk.specs.declared.row.Outcome.TheVariants.{Apart, Fresh, Validate, Refetch, Miss, MissVary}
use Rattle.http_cache_findings.specs.declared.cost.Known.{Known}
use Rattle.http_cache_findings.specs.declared.cost.Cost.{Cost}
use Rattle.http_cache_findings.specs.declared.counts.Counts.{Counts}
use Rattle.http_cache_walk.specs.Row.{RowSeen, AuditVerdictSeen, UsedSeen}
use Rattle.http_cache_walk.specs.Order.{entry_in}
use Rattle.http_cache_walk.specs.Walk.{AreRows}
use Rattle.http_cache_findings.specs.Counts.{Addition, HoldsCounts, label_of, when}
use Rattle.http_cache_findings.specs.Cost.{FirstSeen, first_load, is_of_first, is_full_reading, is_asked_reading, used_in, sent_at, cost_of, text_at}
use Rattle.http_cache_findings.specs.declared.visit.Repeat.{Repeat}
use Rattle.http_cache_findings.specs.declared.visit.Span.{Span}
use Rattle.http_cache_findings.specs.Copies.{IsCopy}

-- ---- what is asked once more

-- the index of the entry with the full response to a request: its own, or the stored response's
abbrev pub full_of : ℕ → RowSeen → ℕ
full_of len r =
    if is_full_reading r.recorded.reading then r.index
    else option_map_or (λ (u : UsedSeen). if nat_lt u.from len then u.from else r.index) (used_in r) r.index

-- a request of the first load that a store could have answered
abbrev pub is_repeated : RowSeen → Known → Bool
is_repeated r known = known.is_first && is_asked_reading r.recorded.reading

abbrev pub repeat_by : ℕ → RowSeen → Bool → Known → Option Repeat
repeat_by len r other_query known =
    if is_repeated r known
    then Some (record { entry = r.index; full = full_of len r; known = known; other_query = other_query })
    else None

abbrev pub repeat_of : ℕ → RowSeen → Option Known → Bool → Option Repeat
repeat_of len r known other_query = option_and_then (repeat_by len r other_query) known

abbrev pub other_query_at : List Bool → ℕ → Bool
other_query_at changing index = unwrap_or (slice_get changing index) false

abbrev pub repeats_at : ℕ → List Known → List Bool → ℕ × RowSeen → List Repeat
repeats_at len known changing at =
    option_to_list (repeat_of len at.1 (slice_get known at.0) (other_query_at changing at.0))

-- the repeated requests, in the order of the rows
abbrev pub repeats_of : ℕ → List Known → List Bool → List RowSeen → List Repeat
repeats_of len known changing rows = flat_map (repeats_at len known changing) (enumerate_from 0 rows)

-- ---- when

abbrev pub is_first_entry : FirstSeen → RowSeen → Bool
is_first_entry first r = is_of_first first r && is_some (entry_in r.recorded.reading)

abbrev pub first_sent : List RowSeen → Option ℤ
first_sent rows = option_and_then sent_at (find (is_first_entry (first_load rows)) rows)

abbrev pub received_in : RecordedSeen → Option ℤ
received_in r = option_map (λ (e : EntrySeen). e.received) (entry_in r.reading)

abbrev pub later : Option ℤ → Option ℤ → Option ℤ
later None b = b
later (Some a) None = Some a
later (Some a) (Some b) = Some (int_max a b)

abbrev pub last_received : List RecordedSeen → Option ℤ
last_received rs = reduce int_max (flat_map (λ r. option_to_list (received_in r)) rs)

pub record SpanSeen : Type 0 where
  pub begun : ℤ
  pub ended : ℤ

abbrev pub span_seen : Span → SpanSeen
span_seen s = record { begun = s.begun.nanosecond; ended = s.ended.nanosecond }

abbrev pub span_of : List RecordedSeen → List RowSeen → Option SpanSeen
span_of rs rows =
    option_and_then
    (λ begun. option_map (λ ended. record { begun = begun; ended = ended }) (last_received rs))
    (first_sent rows)

-- ---- what it costs

abbrev pub is_sent : Outcome → Bool
is_sent Apart = false
is_sent Fresh = false
is_sent Validate = true
is_sent Refetch = true
is_sent Miss = true
is_sent MissVary = true

abbrev pub is_again : RowSeen → Cost → Bool
is_again r cost = option_map_or (λ (v : AuditVerdictSeen). is_sent v.outcome && (cost.confirmed == 0)) r.verdict false

-- an amount for a url, and for the whole visit
abbrev pub amount_additions : List ℕ → List ℕ → ℕ → List Addition
amount_additions name url n =
    when (nat_lt 0 n) (label_of name url, n) ++ when (nat_lt 0 n) (label_of (codes "visit") name, n)

abbrev pub amounts : List ℕ → Cost → List Addition
amounts url cost =
    amount_additions (codes "bytes") url cost.bytes
    ++ (amount_additions (codes "confirmed") url cost.confirmed ++ amount_additions (codes "unknown") url cost.unknown)

-- the costs of a request, and whether its full response is sent again
abbrev pub sums : List ℕ → RowSeen → Cost → List Addition
sums url r cost = amounts url cost ++ when (is_again r cost) (label_of (codes "again") url, 1)

abbrev pub repeat_additions : List RecordedSeen → RowSeen → Repeat → List Addition
repeat_additions rs r repeat = sums (text_at rs repeat.entry) r (cost_of rs repeat.known r)

-- the repeated request whose copy is at an index; the copies start at `begin`
abbrev pub repeat_in : List Repeat → ℕ → ℕ → Option Repeat
repeat_in repeats begin index = if nat_lt index begin then None else slice_get repeats (index - begin)

abbrev pub row_additions : List RecordedSeen → List Repeat → ℕ → RowSeen → List Addition
row_additions rs repeats begin r = option_map_or (repeat_additions rs r) (repeat_in repeats begin r.index) []

-- the counts of a walk over a recording whose copies start at `begin`
pub record AreVisitCounts (rs : List RecordedSeen) (repeats : List Repeat) (begin : ℕ) (options : Options) (target : Uri)
    (counts : Counts) : Type 0 where
  pub rows : List RowSeen
  pub are_rows : AreRows (record { recorded = rs; options = options; target = target }) rows
  pub are_counts : HoldsCounts (flat_map (row_additions rs repeats begin) rows) counts

-- the costs of a later visit: the counts of a walk over the recording with the copies at its end
pub record IsVisit (rs : List RecordedSeen) (repeats : List Repeat) (shift : ℤ) (options : Options) (target : Uri)
    (counts : Counts) : Type 0 where
  pub copies : List RecordedSeen
  pub are_copies : AllZip (IsCopy rs shift) repeats copies
  pub are_counts : AreVisitCounts (rs ++ copies) repeats (length rs) options target counts

-- The entries of a recording in the order of the walk.
use Rattle.std.specs.Prelude.{◌≡◌, ◌==◌, Bool, if◌then◌else◌, ℕ, ℤ, List, [], Option, Some, None, option_map, option_and_then, unwrap_or}
use Rattle.std.specs.Prelude.{slice_get}
use Rattle.std.specs.List.{before_first, flat_map, enumerate_from}
use Rattle.std.specs.List.Sorted.{IsPermutation, IsSorted}
use Rattle.std.specs.Option.{option_to_list}
use Rattle.std.specs.Ordering.{nat_cmp, int_cmp, ordering_then}
use Rattle.std.specs.declared.cmp.Ordering.{Ordering}
use Rattle.http_cache_recording.specs.Entry.{RecordedSeen, recorded_seen, ReadingSeen, entry, skipped, EntrySeen}
use Rattle.http_cache_recording.specs.Entry.{entry_seen}
use Rattle.http_cache_walk.specs.declared.order.Sent.{Sent}

-- the time at which an entry was sent, and its index in the recording
abbrev pub Moment : Type 0
Moment = ℤ × ℕ

abbrev pub entry_in : ReadingSeen → Option EntrySeen
entry_in (entry e) = Some e
entry_in (skipped s) = None

abbrev pub moment_at : ℕ × RecordedSeen → Option Moment
moment_at at = option_map (λ e. (e.started, at.0)) (entry_in at.1.reading)

-- in the order of the recording
abbrev pub moments : List RecordedSeen → List Moment
moments rs = flat_map (λ at. option_to_list (moment_at at)) (enumerate_from 0 rs)

-- by the time of the request, and by index for equal times
abbrev pub by_moment : Moment → Moment → Ordering
by_moment x y = ordering_then (int_cmp x.0 y.0) (nat_cmp x.1 y.1)

-- the times of all entries, each once, in order
pub record IsOrder (rs : List RecordedSeen) (order : List Moment) : Type 0 where
  pub each_once : IsPermutation (moments rs) order
  pub ascending : IsSorted by_moment order

pub record SentSeen : Type 0 where
  pub index : ℕ
  pub recorded : RecordedSeen
  pub entry : EntrySeen

abbrev pub sent_seen : Sent → SentSeen
sent_seen s = record { index = s.index; recorded = recorded_seen s.recorded.now; entry = entry_seen s.entry.now }

abbrev pub target_of : RecordedSeen → List ℕ
target_of r = unwrap_or r.printed.url []

abbrev pub sent_at : List RecordedSeen → Moment → Option SentSeen
sent_at rs at =
    option_and_then
    (λ r. option_map (λ e. record { index = at.1; recorded = r; entry = e }) (entry_in r.reading))
    (slice_get rs at.1)

abbrev pub sent_in : List RecordedSeen → List Moment → List SentSeen
sent_in rs order = flat_map (λ at. option_to_list (sent_at rs at)) order

pub record IsWalk (rs : List RecordedSeen) (sent : List SentSeen) : Type 0 where
  pub order : List Moment
  pub ordered : IsOrder rs order
  pub each : sent ≡ sent_in rs order

-- a url without its query, if that isn't printed
abbrev pub shown_url : Bool → List ℕ → List ℕ
shown_url hides url = if hides then before_first (λ b. b == 63) url else url

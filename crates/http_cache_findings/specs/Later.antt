-- The costs of later visits.
use Rattle.std.specs.Prelude.{ℕ, ℤ, ◌*◌, ◌+ℤ◌, ◌-ℤ◌, pos, List, codes}
use Rattle.http_uri.specs.declared.uri.Uri.{Uri}
use Rattle.http_cache_semantics.specs.Options.{Options}
use Rattle.http_cache_recording.specs.Entry.{RecordedSeen}
use Rattle.http_cache_findings.specs.declared.counts.Counts.{Counts}
use Rattle.http_cache_findings.specs.Counts.{label_of, total_in}
use Rattle.http_cache_findings.specs.declared.visit.Repeat.{Repeat}
use Rattle.http_cache_findings.specs.declared.later.Visits.{Visits}
use Rattle.http_cache_findings.specs.Visit.{SpanSeen, IsVisit}

-- the nanoseconds by which the first load is moved for a visit so many seconds after the recording
abbrev pub shift_by : SpanSeen → ℕ → ℤ
shift_by s seconds = (s.ended -ℤ s.begun) +ℤ pos (seconds * 1_000_000_000)

abbrev pub IsLater : List RecordedSeen → List Repeat → SpanSeen → Options → Uri → ℕ → Counts → Type 0
IsLater rs repeats s options target seconds c = IsVisit rs repeats (shift_by s seconds) options target c

-- the costs of visits an hour, a day, a week and thirty days after the recording
pub record AreVisits (rs : List RecordedSeen) (repeats : List Repeat) (s : SpanSeen) (options : Options) (target : Uri) (v : Visits)
    : Type 0 where
  pub hour : IsLater rs repeats s options target 3600 v.hour
  pub day : IsLater rs repeats s options target 86400 v.day
  pub week : IsLater rs repeats s options target 604800 v.week
  pub month : IsLater rs repeats s options target 2592000 v.month

-- what the whole page costs
abbrev pub sum_in : Counts → List ℕ → ℕ
sum_in c name = total_in c (label_of (codes "visit") name)

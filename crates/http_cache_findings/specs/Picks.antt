-- What urls are advised, and what requests cost, as they are and if urls follow their advice.
use Rattle.std.specs.Prelude.{◌≡◌, ℕ, nat_lt, Bool, List, [], ◌∷◌, slice_get, codes, Some}
use Rattle.std.specs.Prelude.{option_map, if◌then◌else◌}
use Rattle.std.specs.List.{flat_map, enumerate_from}
use Rattle.std.specs.Option.{option_map_or, option_to_list}
use Rattle.http_cache_rules.specs.Messages.{ResponseSeen}
use Rattle.http_cache_recording.specs.Entry.{RecordedSeen}
use Rattle.http_cache_findings.specs.declared.advice.Advice.{Advice}
use Rattle.http_cache_findings.specs.declared.advice.Shown.{Shown}
use Rattle.http_cache_findings.specs.declared.cost.Known.{Known}
use Rattle.http_cache_findings.specs.declared.counts.Counts.{Counts}
use Rattle.http_cache_findings.specs.declared.picks.Pick.{Pick}
use Rattle.http_cache_findings.specs.declared.remedy.Remedy.{Remedy}
use Rattle.http_cache_walk.specs.Row.{RowSeen}
use Rattle.http_cache_walk.specs.Order.{target_of}
use Rattle.http_cache_findings.specs.Advice.{IsFit}
use Rattle.http_cache_findings.specs.Counts.{Addition, label_of, total_in}
use Rattle.http_cache_findings.specs.Cost.{is_asked_reading, cost_of, response_of, text_at}
use Rattle.http_cache_findings.specs.Queries.{base_of}
use Rattle.http_cache_findings.specs.Remedy.{RemedySeen, is_still_in_full}

-- a request for the url had Cookie or Authorization
abbrev pub has_credentials : List RecordedSeen → Counts → ℕ → Bool
has_credentials rs sums entry = nat_lt 0 (total_in sums (label_of (codes "with_credentials") (text_at rs entry)))

-- the advice fits the response of an entry, for requests with or without credentials
pub record IsFitWith (r : RecordedSeen) (with_credentials : Bool) (a : Advice) : Type 0 where
  pub response : ResponseSeen
  pub shown : Shown
  pub is_response : response_of r.reading ≡ Some response
  pub credentials : shown.with_credentials ≡ with_credentials
  pub is_fit : IsFit response.headers shown a

-- the advice fits the full response of a url, for the requests that are counted for it
pub record IsFitFor (rs : List RecordedSeen) (sums : Counts) (entry full : ℕ) (a : Advice) : Type 0 where
  pub recorded : RecordedSeen
  pub is_recorded : slice_get rs full ≡ Some recorded
  pub is_fit : IsFitWith recorded (has_credentials rs sums entry) a

abbrev pub IsFitPick : List RecordedSeen → Counts → Pick → Type 0
IsFitPick rs sums p = IsFitFor rs sums p.entry p.full p.advice

abbrev pub IsFitRemedy : List RecordedSeen → Counts → Remedy → Type 0
IsFitRemedy rs sums m = IsFitPick rs sums m.pick

-- the facts about a row, if urls follow their advice
abbrev pub known_with : List RemedySeen → RowSeen → Known → Known
known_with ms r known = record known { in_full = is_still_in_full ms (target_of r.recorded) known.in_full }

abbrev pub known_at : List RemedySeen → List Known → ℕ × RowSeen → List Known
known_at ms known at = option_to_list (option_map (known_with ms at.1) (slice_get known at.0))

abbrev pub known_after : List RemedySeen → List RowSeen → List Known → List Known
known_after ms rows known = flat_map (known_at ms known) (enumerate_from 0 rows)

abbrev pub cost_name : Bool → List ℕ
cost_name is_first = if is_first then codes "first_cost" else codes "later_cost"

abbrev pub base_name : Bool → List ℕ
base_name is_first = if is_first then codes "first_base" else codes "later_base"

-- the cost of a request, for its url and for all urls with its base
abbrev pub byte_additions : Bool → List ℕ → ℕ → List Addition
byte_additions is_first url bytes =
    (label_of (cost_name is_first) url, bytes) ∷ (label_of (base_name is_first) (base_of url), bytes) ∷ []

abbrev pub url_cost : List RecordedSeen → RowSeen → Known → List Addition
url_cost rs r known =
    if is_asked_reading r.recorded.reading
    then byte_additions known.is_first (target_of r.recorded) (cost_of rs known r).bytes else []

abbrev pub url_costs_at : List RecordedSeen → List Known → ℕ × RowSeen → List Addition
url_costs_at rs known at = option_map_or (url_cost rs at.1) (slice_get known at.0) []

-- the costs of each url's requests, and of all with its base, in the first load and in later ones
abbrev pub url_costs : List RecordedSeen → List Known → List RowSeen → List Addition
url_costs rs known rows = flat_map (url_costs_at rs known) (enumerate_from 0 rows)

-- What the requests of a walk cost over the network.
use Rattle.std.specs.Prelude.{ℕ, ℤ, ◌==◌, ◌&&◌, ◌||◌, not, int_lt, nat_lt, Bool, true, false, List, [], ◌∷◌, map, codes, bytes_eq}
use Rattle.std.specs.Prelude.{slice_get, is_some, unwrap_or, Option, Some, None, option_map, option_and_then, if◌then◌else◌}
use Rattle.std.specs.List.{flat_map, find, enumerate_from}
use Rattle.std.specs.Option.{option_or, option_map_or}
use Rattle.http_cache_semantics.specs.Messages.{ResponseSeen}
use Rattle.http_cache_recording.specs.Entry.{RecordedSeen, ReadingSeen, entry, skipped, EntrySeen, BodySeen, AnswerSeen}
use Rattle.http_cache_recording.specs.Entry.{failed, cached, received}
use Rattle.http_cache_walk.specs.declared.row.Outcome.{Outcome}
use Rattle.http_cache_walk.specs.declared.row.Outcome.TheVariants.{Apart, Fresh, Validate, Refetch, Miss, MissVary}
use Rattle.http_cache_findings.specs.declared.cost.Size.{Size}
use Rattle.http_cache_findings.specs.declared.cost.Known.{Known}
use Rattle.http_cache_findings.specs.declared.cost.Cost.{Cost}
use Rattle.http_cache_findings.specs.declared.cost.FirstLoad.{FirstLoad}
use Rattle.http_cache_walk.specs.Row.{RowSeen, AuditVerdictSeen, UsedSeen}
use Rattle.http_cache_walk.specs.Order.{entry_in, target_of}
use Rattle.http_cache_walk.specs.Sources.{is_asked}
use Rattle.http_cache_walk.specs.Walk.{body_in}
use Rattle.http_cache_walk.specs.Again.{are_same_bodies, is_same_validator}
use Rattle.http_cache_findings.specs.Counts.{Addition, label_of, when, total_of, is_in_full}

-- ---- loads

-- the first load's page, and the time of the first request for another page
pub record FirstSeen : Type 0 where
  pub page : Option (List ℕ)
  pub ended : Option ℤ

abbrev pub first_seen : FirstLoad → FirstSeen
first_seen l = record { page = option_map (λ t. t.now) l.page; ended = option_map (λ t. t.nanosecond) l.ended }

abbrev pub page_of : RowSeen → Option (List ℕ)
page_of r = r.recorded.printed.page

abbrev pub has_page : RowSeen → Bool
has_page r = is_some (page_of r)

-- if both are known
abbrev pub is_other : Option (List ℕ) → Option (List ℕ) → Bool
is_other None page = false
is_other (Some a) None = false
is_other (Some a) (Some b) = not (bytes_eq a b)

abbrev pub is_of_other : Option (List ℕ) → RowSeen → Bool
is_of_other page r = is_other (page_of r) page

abbrev pub sent_at : RowSeen → Option ℤ
sent_at r = option_map (λ (e : EntrySeen). e.started) (entry_in r.recorded.reading)

abbrev pub first_page : List RowSeen → Option (List ℕ)
first_page rows = option_and_then page_of (find has_page rows)

-- the page of the first row that has one, and when another began
unfoldable pub first_load : List RowSeen → FirstSeen
first_load rows = record {
  page = first_page rows;
  ended = option_and_then sent_at (find (is_of_other (first_page rows)) rows);
}

-- if both are known
abbrev pub is_before : Option ℤ → Option ℤ → Bool
is_before None ended = true
is_before (Some at) None = true
is_before (Some at) (Some ended) = int_lt at ended

-- by its page, or else by the time of the request
unfoldable pub is_of_first : FirstSeen → RowSeen → Bool
is_of_first l r = if has_page r then not (is_of_other l.page r) else is_before (sent_at r) l.ended

-- ---- full responses

-- from the network
abbrev pub is_full_answer : AnswerSeen → Bool
is_full_answer failed = false
is_full_answer (cached r) = false
is_full_answer (received r) = not (r.status == 304)

abbrev pub is_full_reading : ReadingSeen → Bool
is_full_reading (entry e) = is_full_answer e.answer
is_full_reading (skipped reason) = false

-- if it was sent in the recording
abbrev pub size_of_used : List RecordedSeen → UsedSeen → Option Size
size_of_used rs u =
    option_and_then (λ bytes. option_map (λ (r : RecordedSeen). record { bytes = bytes; head = r.printed.head }) (slice_get rs u.from)) u.saved

abbrev pub used_in : RowSeen → Option UsedSeen
used_in r = option_and_then (λ (v : AuditVerdictSeen). v.used) r.verdict

-- the request's own full response, or the stored one's
unfoldable pub size_of : List RecordedSeen → RowSeen → Option Size
size_of rs r =
    if is_full_reading r.recorded.reading
    then Some (record { bytes = r.recorded.printed.sent; head = r.recorded.printed.head })
    else option_and_then (size_of_used rs) (used_in r)

-- ---- origin servers that answer in full

-- a full response to a condition that it meets
abbrev pub ends_in_full : RowSeen → Bool
ends_in_full r = option_map_or (λ (v : AuditVerdictSeen). is_in_full v.again) r.verdict false

abbrev pub full_additions : RowSeen → List Addition
full_additions r = when (ends_in_full r) (label_of (codes "in_full") (target_of r.recorded), 1)

-- ---- what is known of a row's full response, from the recording as it is

-- by the first load, and by how often each url was sent in full
abbrev pub known_by : List RecordedSeen → FirstSeen → (List ℕ → ℕ) → RowSeen → Known
known_by rs first in_full r = record {
  size = size_of rs r;
  is_first = is_of_first first r;
  in_full = nat_lt 0 (in_full (label_of (codes "in_full") (target_of r.recorded)));
}

abbrev pub known_for : List RecordedSeen → List RowSeen → RowSeen → Known
known_for rs rows r = known_by rs (first_load rows) (total_of (flat_map full_additions rows)) r

abbrev pub known_of : List RecordedSeen → List RowSeen → List Known
known_of rs rows = map (known_for rs rows) rows

-- ---- what a row costs

abbrev pub response_in : AnswerSeen → Option ResponseSeen
response_in failed = None
response_in (cached r) = Some r
response_in (received r) = Some r

abbrev pub text_at : List RecordedSeen → ℕ → List ℕ
text_at rs index = option_map_or target_of (slice_get rs index) []

abbrev pub response_of : ReadingSeen → Option ResponseSeen
response_of (entry e) = response_in e.answer
response_of (skipped reason) = None

abbrev pub are_confirming : Option BodySeen → Option BodySeen → ResponseSeen → ResponseSeen → Bool
are_confirming a b x y =
    (x.status == y.status)
    && unwrap_or (option_or (is_same_validator x.headers y.headers) (are_same_bodies a b)) false

-- by validators, or else by the bodies
unfoldable pub is_same_response : ReadingSeen → ReadingSeen → Bool
is_same_response a b =
    option_map_or (λ x. option_map_or (are_confirming (body_in a) (body_in b) x) (response_of b) false) (response_of a) false

abbrev pub is_304 : ReadingSeen → Bool
is_304 r = option_map_or (λ (x : ResponseSeen). x.status == 304) (response_of r) false

abbrev pub is_used_again : List RecordedSeen → RowSeen → UsedSeen → Bool
is_used_again rs r u =
    option_map_or (λ (q : RecordedSeen). is_same_response q.reading r.recorded.reading) (slice_get rs u.from) false

-- a 304 was recorded, or the response is unchanged and its origin server answers conditions
unfoldable pub is_confirmed : List RecordedSeen → Known → RowSeen → Bool
is_confirmed rs known r =
    is_304 r.recorded.reading
    || (not known.in_full && option_map_or (is_used_again rs r) (used_in r) false)

abbrev pub nothing_sent : Cost
nothing_sent = record { bytes = 0; confirmed = 0; unknown = 0 }

-- the head of a 304
abbrev pub head_sent : Option Size → Cost
head_sent None = record { bytes = 0; confirmed = 1; unknown = 0 }
head_sent (Some s) = record { bytes = s.head; confirmed = 1; unknown = 0 }

-- a full response
abbrev pub all_sent : Option Size → Cost
all_sent None = record { bytes = 0; confirmed = 0; unknown = 1 }
all_sent (Some s) = record { bytes = s.bytes; confirmed = 0; unknown = 0 }

abbrev pub cost_by : Outcome → Bool → Option Size → Cost
cost_by Apart confirmed size = nothing_sent
cost_by Fresh confirmed size = nothing_sent
cost_by Validate confirmed size = if confirmed then head_sent size else all_sent size
cost_by Refetch confirmed size = all_sent size
cost_by Miss confirmed size = all_sent size
cost_by MissVary confirmed size = all_sent size

-- a fresh response costs nothing, a confirmed one a head, and any other all
unfoldable pub cost_of : List RecordedSeen → Known → RowSeen → Cost
cost_of rs known r =
    option_map_or (λ (v : AuditVerdictSeen). cost_by v.outcome (is_confirmed rs known r) known.size) r.verdict nothing_sent

-- ---- sums

abbrev pub load_name : Bool → List ℕ
load_name is_first = if is_first then codes "first_load" else codes "later_loads"

abbrev pub sum_additions : List ℕ → Cost → List Addition
sum_additions load cost =
    (label_of load (codes "bytes"), cost.bytes) ∷ (label_of load (codes "confirmed"), cost.confirmed)
    ∷ (label_of load (codes "unknown"), cost.unknown) ∷ []

abbrev pub is_asked_reading : ReadingSeen → Bool
is_asked_reading (entry e) = is_asked e.kind
is_asked_reading (skipped reason) = false

unfoldable pub cost_additions : List RecordedSeen → RowSeen → Known → List Addition
cost_additions rs r known =
    if is_asked_reading r.recorded.reading then sum_additions (load_name known.is_first) (cost_of rs known r) else []

abbrev pub costs_at : List RecordedSeen → List Known → ℕ × RowSeen → List Addition
costs_at rs known at = option_map_or (cost_additions rs at.1) (slice_get known at.0) []

abbrev pub all_costs : List RecordedSeen → List Known → List RowSeen → List Addition
all_costs rs known rows = flat_map (costs_at rs known) (enumerate_from 0 rows)

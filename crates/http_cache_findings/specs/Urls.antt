-- The facts that a report has about each url, and the sums of a recording's loads.
use Rattle.std.specs.Prelude.{ℕ, nat_lt, ◌&&◌, ◌||◌, not, Bool, false, List, [], ◌∷◌, ◌++◌, slice_get, codes, bytes_eq, unwrap_or, Option, Some, None, if◌then◌else◌}
use Rattle.std.specs.List.{flat_map, enumerate_from}
use Rattle.std.specs.Option.{option_map_or}
use Rattle.http_cache_fields.specs.Headers.{Headers, contains_key}
use Rattle.http_cache_recording.specs.Entry.{RecordedSeen, EntrySeen, ReadingSeen, entry, skipped}
use Rattle.http_cache_recording.specs.declared.entry.Kind.{Kind}
use Rattle.http_cache_recording.specs.declared.entry.Kind.TheVariants.{Internal, Preflight, Passed, Range, Failed, Asked}
use Rattle.http_cache_findings.specs.declared.cost.Known.{Known}
use Rattle.http_cache_walk.specs.Row.{RowSeen, AuditVerdictSeen, UsedSeen, LifetimeSeen, KeptSeen, ReceivedSeen}
use Rattle.http_cache_walk.specs.Row as got
use Rattle.http_cache_walk.specs.Order.{entry_in, target_of}
use Rattle.http_cache_findings.specs.Counts.{Addition, label_of, when, is_forced}
use Rattle.http_cache_findings.specs.Cost.{used_in, load_name}
use Rattle.http_cache_findings.specs.ByUrl.{is_asked_row, is_hit, firsts}
use Rattle.http_cache_findings.specs.declared.urls.Life.{Life}
use Rattle.http_cache_findings.specs.declared.urls.Life.TheVariants as life
use Rattle.http_cache_findings.specs.declared.urls.Url.{Url}
use Rattle.http_cache_findings.specs.Visit.{full_of}

-- ---- sums

-- the words for the kind of an entry that no store could have answered
abbrev pub kind_text : RecordedSeen → Kind → List ℕ
kind_text r Internal = codes "redirected by the browser"
kind_text r Preflight = codes "preflights"
kind_text r Passed = unwrap_or r.printed.method []
kind_text r Range = codes "by Range"
kind_text r Failed = codes "failed or aborted"
kind_text r Asked = []

-- why an entry isn't audited, or its kind
abbrev pub reading_text : RecordedSeen → ReadingSeen → List ℕ
reading_text r (skipped reason) = reason
reading_text r (entry e) = kind_text r e.kind

abbrev pub apart_text : RecordedSeen → List ℕ
apart_text r = reading_text r r.reading

-- the number of these entries, and the bytes that were sent for them
abbrev pub apart_additions : RecordedSeen → List Addition
apart_additions r =
    (label_of (codes "apart") (apart_text r), 1) ∷ (label_of (codes "apart_bytes") (apart_text r), r.printed.sent) ∷ []

-- what the stored response of a hit saved
abbrev pub saved_by : RowSeen → ℕ
saved_by r = if is_hit r then option_map_or (λ (u : UsedSeen). unwrap_or u.saved 0) (used_in r) 0 else 0

-- the repeated requests and the hits, with their savings
abbrev pub hit_additions : RowSeen → List Addition
hit_additions r =
    when r.repeated (label_of (codes "counts") (codes "repeated"), 1)
    ++ (when (is_hit r) (label_of (codes "verdicts") (codes "fresh"), 1)
    ++ (label_of (codes "bytes") (codes "saved"), saved_by r) ∷ [])

-- what shows that the cache was off
abbrev pub no_cache_additions : RowSeen → List Addition
no_cache_additions r =
    (label_of (codes "kinds") (codes "asked"), 1)
    ∷ (when r.no_cache (label_of (codes "counts") (codes "no_cache"), 1)
    ++ when (is_forced r) (label_of (codes "counts") (codes "no_cache_repeated"), 1))

abbrev pub is_sent_later : Bool → ℕ → Bool
is_sent_later is_first sent = not is_first && nat_lt 0 sent

-- what was sent for a request of a load, and for its url in later loads
abbrev pub sent_additions : RowSeen → Bool → List Addition
sent_additions r is_first =
    (label_of (codes "asked") (load_name is_first), r.recorded.printed.sent)
    ∷ (when (not is_first) (label_of (codes "later_bytes") (target_of r.recorded), r.recorded.printed.sent)
    ++ when (is_sent_later is_first r.recorded.printed.sent)
    (label_of (codes "later_requests") (target_of r.recorded), 1))

abbrev pub are_with_credentials : Headers → Bool
are_with_credentials h = contains_key h (codes "cookie") || contains_key h (codes "authorization")

-- the request had Cookie or Authorization
abbrev pub has_credentials : RowSeen → Bool
has_credentials r =
    option_map_or (λ (e : EntrySeen). are_with_credentials e.headers) (entry_in r.recorded.reading) false

abbrev pub credential_additions : RowSeen → List Addition
credential_additions r = when (has_credentials r) (label_of (codes "with_credentials") (target_of r.recorded), 1)

abbrev pub asked_additions : RowSeen → Bool → List Addition
asked_additions r is_first =
    sent_additions r is_first ++ (hit_additions r ++ (no_cache_additions r ++ credential_additions r))

abbrev pub kind_additions : RowSeen → Bool → List Addition
kind_additions r is_first = if is_asked_row r then asked_additions r is_first else apart_additions r.recorded

abbrev pub row_additions : RowSeen → Bool → List Addition
row_additions r is_first =
    (label_of (codes "sent") (load_name is_first), r.recorded.printed.sent)
    ∷ (label_of (codes "loads") (load_name is_first), 1) ∷ kind_additions r is_first

abbrev pub sums_at : List Known → ℕ × RowSeen → List Addition
sums_at known at = option_map_or (λ (k : Known). row_additions at.1 k.is_first) (slice_get known at.0) []

abbrev pub sums_of : List RowSeen → List Known → List Addition
sums_of rows known = flat_map (sums_at known) (enumerate_from 0 rows)

-- ---- how long responses stay fresh

abbrev pub life_by : LifetimeSeen → Life
life_by l =
    if bytes_eq l.by (codes "no-cache") then life.NoCache
    else (if bytes_eq l.by (codes "last-modified") then life.Guessed l.seconds else life.Given l.seconds)

-- the lifetime of the stored response that answers or is asked about
abbrev pub life_of_used : RowSeen → Life
life_of_used r = option_map_or (λ (u : UsedSeen). life_by u.lifetime) (used_in r) life.Unknown

abbrev pub life_after : RowSeen → ReceivedSeen → Life
life_after r (got.stored k) = life_by k.lifetime
life_after r (got.updated k) = life_by k.lifetime
life_after r (got.updated_other k) = life_by k.lifetime
life_after r (got.not_storable o) = life.NotStored
life_after r got.nothing = life_of_used r
life_after r got.browser = life_of_used r
life_after r got.failed = life_of_used r
life_after r got.nothing_stored = life_of_used r
life_after r got.not_selected = life_of_used r
life_after r got.passed = life_of_used r

abbrev pub life_of : RowSeen → Life
life_of r = option_map_or (λ (v : AuditVerdictSeen). life_after r v.received) r.verdict life.Unknown

-- ---- urls

abbrev pub url_by : ℕ → ℕ → RowSeen → Known → Url
url_by len index r known = record {
  row = index;
  entry = r.index;
  full = full_of len r;
  known = known;
  life = life_of r;
}

abbrev pub url_if : ℕ → ℕ → Option RowSeen → Option Known → List Url
url_if len index None known = []
url_if len index (Some r) None = []
url_if len index (Some r) (Some known) = url_by len index r known ∷ []

abbrev pub url_at : ℕ → List RowSeen → List Known → ℕ → List Url
url_at len rows known index = url_if len index (slice_get rows index) (slice_get known index)

-- the urls that a store could have answered for, in the order of their first requests
abbrev pub urls_in : ℕ → List RowSeen → List Known → List Url
urls_in len rows known = flat_map (url_at len rows known) (firsts rows)

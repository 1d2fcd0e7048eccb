-- What is found in a recording: each number is a sum over the rows of a walk.
use Rattle.std.specs.Prelude.{◌≡◌, ℕ, not, Bool, List, [], ◌∷◌, map, slice_get, codes, string_bytes, Option, Some, None}
use Rattle.std.specs.Option.{option_map_or}
use Rattle.http_uri.specs.declared.uri.Uri.{Uri}
use Rattle.http_cache_recording.specs.Entry.{RecordedSeen}
use Rattle.http_cache_walk.specs.Order.{shown_url}
use Rattle.http_cache_walk.specs.Settings.{SettingsSeen, any_credentials}
use Rattle.http_cache_findings.specs.declared.advice.Advice.{Advice}
use Rattle.http_cache_findings.specs.declared.changes.Change.{Change}
use Rattle.http_cache_findings.specs.declared.counts.Counts.{Counts}
use Rattle.http_cache_findings.specs.declared.facts.Facts.{Facts}
use Rattle.http_cache_findings.specs.declared.findings.ChangedUrl.{ChangedUrl}
use Rattle.http_cache_findings.specs.declared.findings.ChangingQuery.{ChangingQuery}
use Rattle.http_cache_findings.specs.declared.findings.Findings.{Findings}
use Rattle.http_cache_findings.specs.declared.findings.LaterVisit.{LaterVisit}
use Rattle.http_cache_findings.specs.declared.findings.Price.{Price}
use Rattle.http_cache_findings.specs.declared.findings.Repeated.{Repeated}
use Rattle.http_cache_findings.specs.declared.findings.Sent.{Sent}
use Rattle.http_cache_findings.specs.declared.findings.VisitCost.{VisitCost}
use Rattle.http_cache_findings.specs.declared.later.Visits.{Visits}
use Rattle.http_cache_findings.specs.declared.outlook.Outlook.{Outlook}
use Rattle.http_cache_findings.specs.declared.remedy.Remedy.{Remedy}
use Rattle.http_cache_findings.specs.declared.visit.Span.{Span}
use Rattle.http_cache_findings.specs.Counts.{is_noticed, label_of, total_in}
use Rattle.http_cache_findings.specs.Facts.{AreFacts}
use Rattle.http_cache_findings.specs.Later.{sum_in}
use Rattle.http_cache_findings.specs.Outlook.{AreOutlook}
use Rattle.http_cache_findings.specs.Plain.{changing_seen}

-- ---- sums

abbrev pub sum_of : Counts → List ℕ → List ℕ → ℕ
sum_of c group name = total_in c (label_of group name)

abbrev pub sent_in : Counts → Sent
sent_in c = record {
  first_load = sum_of c (codes "sent") (codes "first_load");
  later_loads = sum_of c (codes "sent") (codes "later_loads");
  asked_first_load = sum_of c (codes "asked") (codes "first_load");
  asked_later_loads = sum_of c (codes "asked") (codes "later_loads");
}

abbrev pub repeated_in : Counts → Repeated
repeated_in c = record {
  requests = total_in c (codes "counts/repeated");
  fresh = total_in c (codes "verdicts/fresh");
  saved = total_in c (codes "bytes/saved");
}

-- the sums under a name for a url, as recorded and with what is advised
abbrev pub price_in : Counts → Counts → List ℕ → List ℕ → Price
price_in now then name url = record { now = sum_of now name url; then = sum_of then name url }

-- ---- changes

pub record ChangedSeen : Type 0 where
  pub url : List ℕ
  pub advice : Advice
  pub requests : ℕ
  pub bytes : ℕ
  pub cost : Price
  pub first_load : Price
  pub by_304 : Price

abbrev pub changed_seen : ChangedUrl → ChangedSeen
changed_seen x = record {
  url = string_bytes x.url;
  advice = x.advice;
  requests = x.requests;
  bytes = x.bytes;
  cost = x.cost;
  first_load = x.first_load;
  by_304 = x.by_304;
}

abbrev pub url_in : List Remedy → ℕ → List ℕ
url_in ms index = option_map_or (λ (m : Remedy). string_bytes m.url) (slice_get ms index) []

-- a change with the costs of its url
abbrev pub changed_by : Bool → Facts → Outlook → Change → ChangedSeen
changed_by hides f o c =
    let url = url_in o.remedies.items c.remedy in
    record {
      url = shown_url hides url;
      advice = c.pick.advice;
      requests = c.pick.requests;
      bytes = c.pick.bytes;
      cost = record { now = c.cost_now; then = c.cost_then };
      first_load = price_in f.costs o.after.costs (codes "first_cost") url;
      by_304 = price_in f.costs o.after.alone (codes "later_cost") url;
    }

-- ---- visits

abbrev pub cost_in : Counts → VisitCost
cost_in c = record {
  bytes = sum_in c (codes "bytes");
  confirmed = sum_in c (codes "confirmed");
  unknown = sum_in c (codes "unknown");
}

abbrev pub visit_in : ℕ → Counts → Counts → LaterVisit
visit_in after now then = record { after = after; now = cost_in now; advised = cost_in then }

abbrev pub visits_in : Visits → Visits → List LaterVisit
visits_in now then =
    visit_in 3600 now.hour then.hour ∷ visit_in 86400 now.day then.day ∷ visit_in 604800 now.week then.week
    ∷ visit_in 2592000 now.month then.month ∷ []

-- ---- queries

pub record QuerySeen : Type 0 where
  pub base : List ℕ
  pub urls : ℕ
  pub cost : Price

abbrev pub query_seen : ChangingQuery → QuerySeen
query_seen q = record { base = string_bytes q.base; urls = q.urls; cost = q.cost }

-- what the later loads cost with what is advised, and then without the query too
abbrev pub query_by : Outlook → List ℕ × ℕ → QuerySeen
query_by o q = record { base = q.0; urls = q.1; cost = price_in o.after.costs o.after.plain (codes "later_base") q.0 }

-- ---- all of it

-- what is found without visits
pub record ArePlainFindings (f : Facts) (no_credentials : Bool) (x : Findings) : Type 0 where
  pub sent : x.sent ≡ sent_in f.sums
  pub repeated : x.repeated ≡ repeated_in f.sums
  pub cache_off : x.cache_off ≡ is_noticed f.sums
  pub credentials : x.no_credentials ≡ no_credentials
  pub changes : x.changes.items ≡ []
  pub visits : x.visits.items ≡ []
  pub queries : x.queries.items ≡ []

-- what is found with visits
pub record AreAllFindings (hides : Bool) (f : Facts) (no_credentials : Bool) (o : Outlook) (x : Findings) : Type 0 where
  pub sent : x.sent ≡ sent_in f.sums
  pub repeated : x.repeated ≡ repeated_in f.sums
  pub cache_off : x.cache_off ≡ is_noticed f.sums
  pub credentials : x.no_credentials ≡ no_credentials
  pub changes : map changed_seen x.changes.items ≡ map (changed_by hides f o) o.changes.items
  pub visits : x.visits.items ≡ visits_in o.visits o.after.visits
  pub queries : map query_seen x.queries.items ≡ map (query_by o) (map changing_seen f.changing.items)

-- with visits if the recording has a first load
abbrev pub AreFindingsBy : Option Span → SettingsSeen → List RecordedSeen → Uri → Facts → Findings → Type 0
AreFindingsBy None s rs target f x = ArePlainFindings f (not (any_credentials rs)) x
AreFindingsBy (Some span) s rs target f x =
    (o : Outlook) × AreOutlook rs s.options target f span o × AreAllFindings s.hides_queries f (not (any_credentials rs)) o x

pub record AreFindings (s : SettingsSeen) (rs : List RecordedSeen) (x : Findings) : Type 0 where
  pub target : Uri
  pub facts : Facts
  pub are_facts : AreFacts rs s.options target facts
  pub are_found : AreFindingsBy facts.span s rs target facts x

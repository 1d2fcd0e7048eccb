-- The rows of an audit, as contracts see them.
use Rattle.std.specs.Prelude.{ℕ, Bool, List, Option, option_map, map, String, string_bytes}
use Rattle.std.specs.declared.alloc.Global.{Global}
use Rattle.http_cache_recording.specs.Entry.{RecordedSeen, recorded_seen}
use Rattle.http_cache_rules.specs.declared.storability.Obstacles.{Obstacles}
use Rattle.http_cache_walk.specs.declared.row.Row.{Row}
use Rattle.http_cache_walk.specs.declared.row.AuditVerdict.{AuditVerdict}
use Rattle.http_cache_walk.specs.declared.row.Outcome.{Outcome}
use Rattle.http_cache_walk.specs.declared.row.Demand.{Demand}
use Rattle.http_cache_walk.specs.declared.row.Again.{Again}
use Rattle.http_cache_walk.specs.declared.row.Lifetime.{Lifetime}
use Rattle.http_cache_walk.specs.declared.row.Used.{Used}
use Rattle.http_cache_walk.specs.declared.row.Kept.{Kept}
use Rattle.http_cache_walk.specs.declared.row.Received.{Received}
use Rattle.http_cache_walk.specs.declared.row.Received.TheVariants as got

-- a lifetime in whole seconds, words for its source, and its text
pub record LifetimeSeen : Type 0 where
  pub seconds : ℕ
  pub by : List ℕ
  pub source : Option (List ℕ)

abbrev pub lifetime_seen : Lifetime → LifetimeSeen
lifetime_seen l = record { seconds = l.seconds; by = l.by.now; source = option_map string_bytes l.source }

-- a stored response that answers, or that is validated
pub record UsedSeen : Type 0 where
  pub from : ℕ
  pub saved : Option ℕ
  pub age : ℕ
  pub left : ℕ
  pub lifetime : LifetimeSeen
  pub is_stale : Bool

abbrev pub used_seen : Used → UsedSeen
used_seen u = record {
  from = u.from;
  saved = u.saved;
  age = u.age;
  left = u.time_to_live;
  lifetime = lifetime_seen u.lifetime;
  is_stale = u.is_stale;
}

-- the lifetime of a stored or updated response, and the rest of it
pub record KeptSeen : Type 0 where
  pub lifetime : LifetimeSeen
  pub left : ℕ

abbrev pub kept_seen : Kept → KeptSeen
kept_seen k = record { lifetime = lifetime_seen k.lifetime; left = k.time_to_live }

pub data ReceivedSeen : Type 0 where
  nothing : ReceivedSeen
  stored : KeptSeen → ReceivedSeen
  updated : KeptSeen → ReceivedSeen
  updated_other : KeptSeen → ReceivedSeen
  not_storable : Obstacles → ReceivedSeen
  browser : ReceivedSeen
  failed : ReceivedSeen
  nothing_stored : ReceivedSeen
  not_selected : ReceivedSeen
  passed : ReceivedSeen

abbrev pub received_seen : Received → ReceivedSeen
received_seen got.Nothing = nothing
received_seen (got.Stored k) = stored (kept_seen k)
received_seen (got.Updated k) = updated (kept_seen k)
received_seen (got.UpdatedOther k) = updated_other (kept_seen k)
received_seen (got.NotStorable o) = not_storable o
received_seen got.Browser = browser
received_seen got.Failed = failed
received_seen got.NothingStored = nothing_stored
received_seen got.NotSelected = not_selected
received_seen got.Passed = passed

abbrev pub texts : List (String Global) → List (List ℕ)
texts ts = map string_bytes ts

pub record AuditVerdictSeen : Type 0 where
  pub outcome : Outcome
  pub used : Option UsedSeen
  pub demand : Option Demand
  pub validator : Option (List ℕ)
  pub missed_by : List (List ℕ)
  pub received : ReceivedSeen
  pub again : Option Again
  pub seeded : Bool

abbrev pub audit_verdict_seen : AuditVerdict → AuditVerdictSeen
audit_verdict_seen v = record {
  outcome = v.outcome;
  used = option_map used_seen v.used;
  demand = v.demand;
  validator = option_map (λ w. w.now) v.validator;
  missed_by = texts v.missed_by.items;
  received = received_seen v.received;
  again = v.again;
  seeded = v.seeded;
}

pub record RowSeen : Type 0 where
  pub index : ℕ
  pub recorded : RecordedSeen
  pub assumed : List (List ℕ)
  pub verdict : Option AuditVerdictSeen
  pub repeated : Bool
  pub no_cache : Bool
  pub invalidated : ℕ

abbrev pub row_seen : Row → RowSeen
row_seen r = record {
  index = r.index;
  recorded = recorded_seen r.recorded.now;
  assumed = texts r.assumed.items;
  verdict = option_map audit_verdict_seen r.verdict;
  repeated = r.repeated;
  no_cache = r.no_cache;
  invalidated = r.invalidated;
}

-- The facts that a report has about a recording, and what the recording costs with what is advised.
use Rattle.std.specs.Prelude.{◌≡◌, ⊤, Vec, ℕ, List, [], ◌∷◌, map, option_map, length}
use Rattle.std.specs.declared.alloc.Global.{Global}
use Rattle.http_uri.specs.declared.uri.Uri.{Uri}
use Rattle.http_cache_semantics.specs.Options.{Options}
use Rattle.http_cache_recording.specs.Entry.{RecordedSeen}
use Rattle.http_cache_findings.specs.declared.counts.Counts.{Counts}
use Rattle.http_cache_findings.specs.declared.cost.Known.{Known}
use Rattle.http_cache_walk.specs.Row.{RowSeen}
use Rattle.http_cache_walk.specs.Walk.{AreRows}
use Rattle.http_cache_findings.specs.Cost.{known_of, text_at}
use Rattle.http_cache_findings.specs.Counts.{HoldsCounts, total_in}
use Rattle.http_cache_findings.specs.declared.facts.Facts.{Facts}
use Rattle.http_cache_findings.specs.declared.facts.After.{After}
use Rattle.http_cache_findings.specs.declared.urls.Url.{Url}
use Rattle.http_cache_findings.specs.declared.visit.Repeat.{Repeat}
use Rattle.http_cache_findings.specs.Visit.{span_seen, span_of, repeats_of, SpanSeen}
use Rattle.http_cache_findings.specs.Urls.{sums_of, urls_in}
use Rattle.http_cache_findings.specs.Queries.{bases_of, changing_of}
use Rattle.http_cache_findings.specs.Remedy.{RemedySeen, remedied, is_still_in_full}
use Rattle.http_cache_findings.specs.Picks.{url_costs, known_after}
use Rattle.http_cache_findings.specs.Plain.{changing_seen, changing_in, plain_recorded}
use Rattle.http_cache_findings.specs.Later.{AreVisits}
use Rattle.http_cache_findings.specs.declared.later.Visits.{Visits}

-- the requests that a later visit repeats, by the bases of urls
pub record AreRepeats (rs : List RecordedSeen) (rows : List RowSeen) (known : List Known) (us : List Url)
    (made : Vec Repeat Global × Counts) : Type 0 where
  pub are_bases : HoldsCounts (bases_of rs us) made.1
  pub are_repeats : made.0.items ≡ repeats_of (length rs) known (changing_of (total_in made.1) rs rows) rows

-- the facts about a recording, by its rows
pub record AreFactsBy (rs : List RecordedSeen) (rows : List RowSeen) (f : Facts) : Type 0 where
  pub bases : Counts
  pub are_changing : map changing_seen f.changing.items ≡ changing_in bases
  pub are_known : f.known.items ≡ known_of rs rows
  pub are_sums : HoldsCounts (sums_of rows f.known.items) f.sums
  pub are_costs : HoldsCounts (url_costs rs f.known.items rows) f.costs
  pub are_urls : f.urls.items ≡ urls_in (length rs) rows f.known.items
  pub are_repeats : AreRepeats rs rows f.known.items f.urls.items (f.repeats, bases)
  pub is_span : option_map span_seen f.span ≡ span_of rs rows

-- the facts about a recording, by its walk
pub record AreFacts (rs : List RecordedSeen) (options : Options) (target : Uri) (f : Facts) : Type 0 where
  pub rows : List RowSeen
  pub are_rows : AreRows (record { recorded = rs; options = options; target = target }) rows
  pub are_facts : AreFactsBy rs rows f

-- the facts about each row if urls follow their advice, and the costs if they only answer a 304
pub record AreAlone (rs : List RecordedSeen) (options : Options) (target : Uri) (ms : List RemedySeen) (known after : List Known) (costs : Counts)
    : Type 0 where
  pub rows : List RowSeen
  pub are_rows : AreRows (record { recorded = rs; options = options; target = target }) rows
  pub are_known : after ≡ known_after ms rows known
  pub are_costs : HoldsCounts (url_costs rs after rows) costs

-- the costs of the requests for each url, by the facts about the rows
pub record AreUrlCosts (rs : List RecordedSeen) (options : Options) (target : Uri) (known : List Known) (costs : Counts)
    : Type 0 where
  pub rows : List RowSeen
  pub are_rows : AreRows (record { recorded = rs; options = options; target = target }) rows
  pub are_costs : HoldsCounts (url_costs rs known rows) costs

abbrev pub known_repeat : List RecordedSeen → List RemedySeen → Repeat → Repeat
known_repeat rs ms r =
    record r { known = record r.known { in_full = is_still_in_full ms (text_at rs r.entry) r.known.in_full } }

abbrev pub repeats_after : List RecordedSeen → List RemedySeen → List Repeat → List Repeat
repeats_after rs ms repeats = map (known_repeat rs ms) repeats

-- the costs without the queries that change, if there are any
abbrev pub ArePlainCosts : List RecordedSeen → Options → Uri → List Known → List (List ℕ × ℕ) → Counts → Type 0
ArePlainCosts rs options target known [] costs = ⊤
ArePlainCosts rs options target known (c ∷ cs) costs =
    AreUrlCosts (map (plain_recorded (c ∷ cs)) rs) options target known costs

-- the costs of a recording, the costs without the queries that change, and the costs of later
-- visits
pub record AreCostsWith (rs : List RecordedSeen) (options : Options) (target : Uri) (known : List Known) (changing : List (List ℕ × ℕ))
    (repeats : List Repeat) (s : SpanSeen) (made : Counts × Counts × Visits) : Type 0 where
  pub costs : AreUrlCosts rs options target known made.0
  pub plain : ArePlainCosts rs options target known changing made.1
  pub visits : AreVisits rs repeats s options target made.2

-- the costs of a recording if urls only answer a 304, and if they follow their whole advice
pub record IsAfter (rs : List RecordedSeen) (options : Options) (target : Uri) (ms : List RemedySeen) (known : List Known)
    (changing : List (List ℕ × ℕ)) (repeats : List Repeat) (s : SpanSeen) (a : After) : Type 0 where
  pub after : List Known
  pub alone : AreAlone rs options target ms known after a.alone
  pub costs :
      AreCostsWith (map (remedied ms) rs) options target after changing (repeats_after rs ms repeats) s
      (a.costs, a.plain, a.visits)

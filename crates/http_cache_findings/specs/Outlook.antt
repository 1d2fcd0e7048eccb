-- What a recording with a first load costs, and what to change first.
use Rattle.std.specs.Prelude.{List, map}
use Rattle.std.specs.List.{All}
use Rattle.http_uri.specs.declared.uri.Uri.{Uri}
use Rattle.http_cache_semantics.specs.Options.{Options}
use Rattle.http_cache_recording.specs.Entry.{RecordedSeen}
use Rattle.http_cache_findings.specs.declared.counts.Counts.{Counts}
use Rattle.http_cache_findings.specs.declared.facts.Facts.{Facts}
use Rattle.http_cache_findings.specs.declared.facts.After.{After}
use Rattle.http_cache_findings.specs.declared.later.Visits.{Visits}
use Rattle.http_cache_findings.specs.declared.outlook.Outlook.{Outlook}
use Rattle.http_cache_findings.specs.declared.picks.Base.{Base}
use Rattle.http_cache_findings.specs.declared.picks.Base.TheVariants.{Later, Visit}
use Rattle.http_cache_findings.specs.declared.visit.Span.{Span}
use Rattle.http_cache_findings.specs.Changes.{AreChanges}
use Rattle.http_cache_findings.specs.Facts.{IsAfter}
use Rattle.http_cache_findings.specs.Later.{AreVisits}
use Rattle.http_cache_findings.specs.Picks.{IsFitRemedy}
use Rattle.http_cache_findings.specs.Plain.{changing_seen}
use Rattle.http_cache_findings.specs.Remedy.{remedy_seen}
use Rattle.http_cache_findings.specs.Visit.{span_seen}

-- the costs by which changes are ordered, as they are
abbrev pub present_of : Base → Facts → Visits → Counts
present_of Later f v = f.costs
present_of Visit f v = v.day

-- and with what is advised
abbrev pub advised_of : Base → After → Counts
advised_of Later a = a.costs
advised_of Visit a = a.visits.day

-- each advice fits its response, the costs now and with what is advised are sums of walks over two
-- recordings, and the changes are those that save bytes by these costs
pub record AreOutlook (rs : List RecordedSeen) (options : Options) (target : Uri) (f : Facts) (span : Span) (o : Outlook)
    : Type 0 where
  pub are_visits : AreVisits rs f.repeats.items (span_seen span) options target o.visits
  pub are_fit : All (IsFitRemedy rs f.sums) o.remedies.items
  pub is_after :
      IsAfter rs options target (map remedy_seen o.remedies.items) f.known.items (map changing_seen f.changing.items)
      f.repeats.items (span_seen span) o.after
  pub are_changes :
      AreChanges o.base (present_of o.base f o.visits) (advised_of o.base o.after) o.remedies.items o.changes.items

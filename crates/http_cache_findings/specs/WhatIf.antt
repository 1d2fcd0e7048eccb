-- What recorded requests cost as they are, and with changed headers.
use Rattle.std.specs.Prelude.{◌≡◌, List, map}
use Rattle.http_uri.specs.declared.uri.Uri.{Uri}
use Rattle.http_cache_recording.specs.Entry.{RecordedSeen}
use Rattle.http_cache_semantics.specs.Options.{Options}
use Rattle.http_cache_findings.specs.declared.counts.Counts.{Counts}
use Rattle.http_cache_findings.specs.declared.cost.Known.{Known}
use Rattle.http_cache_walk.specs.Row.{RowSeen}
use Rattle.http_cache_walk.specs.Walk.{AreRows}
use Rattle.http_cache_findings.specs.Counts.{HoldsCounts}
use Rattle.http_cache_findings.specs.Change.{ChangeSeen, changed}
use Rattle.http_cache_findings.specs.Cost.{known_of, all_costs}

pub record AreCosts (rs : List RecordedSeen) (options : Options) (target : Uri) (known : List Known) (costs : Counts)
    : Type 0 where
  pub rows : List RowSeen
  pub are_rows : AreRows (record { recorded = rs; options = options; target = target }) rows
  pub are_known : known ≡ known_of rs rows
  pub are_costs : HoldsCounts (all_costs rs known rows) costs

-- what another recording costs, given what is known of each full response
pub record AreOtherCosts (rs : List RecordedSeen) (known : List Known) (options : Options) (target : Uri) (costs : Counts)
    : Type 0 where
  pub rows : List RowSeen
  pub are_rows : AreRows (record { recorded = rs; options = options; target = target }) rows
  pub are_costs : HoldsCounts (all_costs rs known rows) costs

-- the costs of a recording as it is and with the changes, by what the recording shows of the full
-- responses
pub record AreCostsIf (rs : List RecordedSeen) (cs : List ChangeSeen) (options : Options) (now then : Counts) : Type 0 where
  pub target : Uri
  pub known : List Known
  pub costs : AreCosts rs options target known now
  pub other_costs : AreOtherCosts (map (changed cs) rs) known options target then

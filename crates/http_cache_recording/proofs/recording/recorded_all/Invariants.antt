-- In the loop: the entries so far are the earlier values'.
use Rattle.std.proofs.Common.{map, take}
use Rattle.std.specs.List.{AllZip}
use Rattle.serde_json.specs.View.{view}
use Rattle.http_cache_recording.specs.Entry.{recorded_seen}
use Rattle.http_cache_recording.specs.Element.{IsRecorded}
use Rattle.http_cache_recording.proofs.recording.recorded_all.Given as goal

abbrev pub invariant-loop-value : goal.invariant-loop-value
invariant-loop-value l =
    AllZip (IsRecorded l.reader) (map view (take l.value-index l.values)) (map recorded_seen l.all.items)

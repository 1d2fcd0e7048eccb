-- In the loop: no byte so far begins a zone.
use Rattle.std.proofs.Common.{◌≡◌, take, false}
use Rattle.std.specs.List.{list_any}
use Rattle.http_cache_recording.specs.Moment.{is_zone_mark}
use Rattle.http_cache_recording.proofs.moment.any_zone_mark.Given as goal

abbrev pub invariant-loop-b : goal.invariant-loop-b
invariant-loop-b l = list_any is_zone_mark (take l.b-index l.text) ≡ false

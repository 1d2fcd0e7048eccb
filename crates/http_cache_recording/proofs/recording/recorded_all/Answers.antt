-- Values are read in turn.
use Rattle.std.proofs.Common.{List, ◌∷◌, [], ◌++◌, ◌+◌, map, take, length, ◌<◌, sym, ap, ◌∙◌, subst, arith}
use Rattle.std.specs.List.{AllZip}
use Rattle.std.proofs.lemmas.List.{map_push}
use Rattle.serde_json.specs.Data.{Data}
use Rattle.serde_json.specs.View.{view}
use Rattle.http_cache_json.proofs.ZipLemmas.{zip_push, up_to_next}
use Rattle.http_cache_recording.specs.Entry.{RecordedSeen, recorded_seen}
use Rattle.http_cache_recording.specs.Element.{IsRecorded}
use Rattle.http_cache_recording.proofs.recording.recorded_all.Goals as goal

pub loop-value-preserved : goal.loop-value-preserved
loop-value-preserved c =
    let values = c.args.values.now in
    let i = c.loop-value.value-index in
    let item = c.value-item.result in
    let one = c.in_ok-recorded.field-0 in
    let done = c.loop-value.all.items in
    let reads = IsRecorded c.args.reader in
    let lt : i < length values = omega arith in
    subst (λ (rs : List RecordedSeen). AllZip reads (map view (take (i + 1) values)) rs)
    (sym (ap (map recorded_seen) c.in_ok-push.ensures.items ∙ map_push recorded_seen done one))
    (subst (λ (ds : List Data). AllZip reads ds (map recorded_seen done ++ recorded_seen one ∷ []))
    (sym (up_to_next view values i item lt c.value-item.is))
    (zip_push reads (map view (take i values)) (map recorded_seen done) (view item) (recorded_seen one)
    c.loop-value.invariant c.in_ok-recorded.ensures))

-- The entries of a value are those of its list.
use Rattle.std.proofs.Common.{List, map, sym, subst}
use Rattle.std.specs.List.{AllZip}
use Rattle.serde_json.specs.Data.{Data}
use Rattle.serde_json.specs.View.{view, items_view}
use Rattle.serde_json.specs.declared.value.Value.{Value}
use Rattle.http_cache_json.specs.Lists.{values_of}
use Rattle.http_cache_json.proofs.SomeLemmas.{some_and}
use Rattle.http_cache_json.proofs.ZipLemmas.{values_of-items_of}
use Rattle.http_cache_recording.specs.declared.element.Reader.{Reader}
use Rattle.http_cache_recording.specs.Entry.{recorded_seen}
use Rattle.http_cache_recording.specs.Element.{IsRecorded}
use Rattle.http_cache_recording.specs.Recording.{entries_of, reader_of}
use Rattle.http_cache_recording.proofs.recording.recording_from_bytes.Goals as goal

pub returns-in-Some-entries_of-clause-found : goal.returns-in-Some-entries_of-clause-found
returns-in-Some-entries_of-clause-found c =
    let log = view c.in_ok-value.value in
    let values = c.in-Some-entries_of.values.now.items in
    let all = map recorded_seen c.in_ok-recorded_all-in-Some-entries_of.field-0.items in
    let reader = reader_of c.args.ignores_no_cache log in
    let zip =
    subst (λ (r : Reader). AllZip (IsRecorded r) (map view values) all) c.reader_of-reader.ensures
    (subst (λ (vs : List Value). AllZip (IsRecorded c.reader_of-reader.result) (map view vs) all)
    c.as_slice-in-Some-entries_of.ensures.value c.in_ok-recorded_all-in-Some-entries_of.ensures) in
    record {
      log = log;
      json = c.in_ok-value.ensures.found;
      entries =
          some_and (entries_of log) (items_view values) (λ ds. AllZip (IsRecorded reader) (values_of ds) all)
          c.in-Some-entries_of.ensures
          (subst (λ (ds : List Data). AllZip (IsRecorded reader) ds all)
          (sym (values_of-items_of (map view values))) zip);
    }

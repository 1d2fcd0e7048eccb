-- The loop looks at each entry.
use Rattle.std.proofs.Common.{rules, tests, ◌∙◌}
use Rattle.std.proofs.lemmas.Iterator.{YieldsList-from_slice}
use Rattle.std.proofs.lemmas.Iterator.Search.{any_from_yields_List}
use Rattle.http_cache_recording.specs.declared.entry.Recorded.{Recorded}
use Rattle.http_cache_recording.specs.Entry.{recorded_seen, RecordedSeen, reading_seen}
use Rattle.http_cache_show.specs.Output.{is_audited}
use Rattle.http_cache_walk.proofs.StoredLemmas.{list_any-map}
use Rattle.http_cache_show.proofs.run.any_audited.Goals as goal

pub returns : goal.returns
returns c =
    any_from_yields_List (λ (x : Recorded). is_audited (reading_seen x.reading)) _ _ _ c.any.ensures.ran
    (YieldsList-from_slice c.args.recorded.now cc) (λ x b q k. search (rules, tests))
    ∙ list_any-map (λ (r : RecordedSeen). is_audited r.reading) recorded_seen c.args.recorded.now

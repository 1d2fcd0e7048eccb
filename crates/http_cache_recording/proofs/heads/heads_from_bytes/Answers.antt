-- If nothing is recorded, all heads are skipped.
use Rattle.std.proofs.Common.{◌≡◌, ◌∙◌, sym, ap, refl, arith, rules, [], ◌∷◌, length, map, List}
use Rattle.std.specs.List.{filter}
use Rattle.http_cache_recording.specs.Entry.{recorded_seen}
use Rattle.http_cache_recording.specs.declared.entry.Recorded.{Recorded}
use Rattle.http_cache_recording.specs.Heads.{is_kept}
use Rattle.http_cache_recording.proofs.HeadsLemmas.{none-recorded}
use Rattle.http_cache_recording.proofs.heads.heads_from_bytes.Goals as goal

empty : (rs : List Recorded) → length rs ≡ 0 → rs ≡ []
empty [] none = refl
empty (r ∷ rs) none = absurd (omega (arith, none))

pub returns-then-is_empty-clause-cause : goal.returns-then-is_empty-clause-cause
returns-then-is_empty-clause-cause c =
    let found = c.in_ok-rows.ensures.found in
    let rows : c.in_ok-rows.rows.items ≡ [] = empty c.in_ok-rows.rows.items (search rules) in
    record {
      heads = found.heads;
      are = found.are;
      none = none-recorded c.args.now.nanosecond (filter is_kept found.heads) (sym found.rows ∙ ap (map recorded_seen) rows);
    }

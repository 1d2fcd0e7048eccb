use Rattle.std.proofs.Common.{rules, ◌∙◌, sym, ap, refl, ℕ, Bool, ◌∷◌, [], ◌++◌, List, map, take, length, add-one}
use Rattle.std.proofs.lemmas.Option.{slice_get_read}
use Rattle.http_cache_recording.specs.Entry.{recorded_seen}
use Rattle.http_cache_walk.specs.Row.{row_seen}
use Rattle.http_cache_findings.specs.Counts.{total_in}
use Rattle.http_cache_walk.proofs.ListLemmas.{map-next}
use Rattle.http_cache_findings.specs.Queries.{changing_by}
use Rattle.http_cache_findings.proofs.queries.changing_of.Goals as goal

pub loop-row-preserved : goal.loop-row-preserved
loop-row-preserved c =
    let all = c.args.rows.now in
    let f = changing_by (total_in c.args.bases.now) (map recorded_seen c.args.recorded.now) in
    let k = c.loop-row.row-index in
    let row = c.row-item.result in
    let at = slice_get_read all (length all) k row refl (search rules) c.row-item.is in
    c.in_ok-push.ensures.items
    ∙ ap (λ (l : List Bool). l ++ c.in_ok-changing_by.field-0 ∷ []) c.loop-row.invariant
    ∙ ap (λ (one : Bool). map f (map row_seen (take k all)) ++ one ∷ []) c.in_ok-changing_by.ensures
    ∙ sym (ap (λ (n : ℕ). map f (map row_seen (take n all))) (add-one k) ∙ map-next row_seen f all k row at)

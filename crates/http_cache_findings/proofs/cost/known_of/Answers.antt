-- What is known of one more row is listed.
use Rattle.std.proofs.Common.{rules, ◌≡◌, ◌∙◌, sym, ap, refl, ℕ, ◌∷◌, [], ◌++◌, List, map, take, length, add-one, codes}
use Rattle.std.proofs.lemmas.Option.{slice_get_read}
use Rattle.http_cache_recording.specs.Entry.{recorded_seen}
use Rattle.http_cache_findings.specs.declared.cost.Known.{Known}
use Rattle.http_cache_walk.specs.Row.{row_seen}
use Rattle.http_cache_findings.specs.Cost.{known_by, known_for, first_load, FirstSeen}
use Rattle.http_cache_findings.specs.Counts.{total_in, label_of}
use Rattle.http_cache_walk.specs.Order.{target_of}
use Rattle.http_cache_walk.proofs.ListLemmas.{map-next}
use Rattle.http_cache_findings.proofs.cost.known_of.Goals as goal

pub loop-row-preserved : goal.loop-row-preserved
loop-row-preserved c =
    let all = c.args.rows.now in
    let rs = map recorded_seen c.args.recorded.now in
    let rows = map row_seen all in
    let k = c.loop-row.row-index in
    let row = c.row-item.result in
    let seen = row_seen row in
    let at = slice_get_read all (length all) k row refl (search rules) c.row-item.is in
    let known : c.in_ok-known_by.field-0 ≡ known_for rs rows seen =
    c.in_ok-known_by.ensures
    ∙ ap (λ (f : FirstSeen). known_by rs f (total_in c.in_ok-in_full.in_full) seen) c.first_load-first.ensures
    ∙ ap (λ (n : ℕ). known_by rs (first_load rows) (λ _. n) seen)
    (c.in_ok-in_full.ensures (label_of (codes "in_full") (target_of seen.recorded))) in
    c.in_ok-push.ensures.items
    ∙ ap (λ (l : List Known). l ++ c.in_ok-known_by.field-0 ∷ []) c.loop-row.invariant
    ∙ ap (λ (one : Known). map (known_for rs rows) (map row_seen (take k all)) ++ one ∷ []) known
    ∙ sym (ap (λ (n : ℕ). map (known_for rs rows) (map row_seen (take n all))) (add-one k)
    ∙ map-next row_seen (known_for rs rows) all k row at)

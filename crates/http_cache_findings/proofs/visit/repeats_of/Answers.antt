-- One more row is listed, if its request is repeated.
use Rattle.std.proofs.Common.{rules, arith, refl, ◌≡◌, ◌≤◌, ◌∙◌, sym, ap, ◌++◌, List, length, map, take, Some, option_map, slice_get}
use Rattle.std.specs.List.{flat_map, enumerate_from}
use Rattle.std.specs.Option.{option_to_list}
use Rattle.std.proofs.lemmas.List.{length-map, take_all}
use Rattle.std.proofs.lemmas.List.FromFn.{length-enumerate_from}
use Rattle.std.proofs.lemmas.Option.{slice_get-map, slice_get_read}
use Rattle.http_cache_walk.specs.Row.{row_seen}
use Rattle.http_cache_findings.proofs.CountsLemmas.{made_at}
use Rattle.http_cache_findings.specs.declared.visit.Repeat.{Repeat}
use Rattle.http_cache_findings.specs.Visit.{repeats_at}
use Rattle.http_cache_findings.proofs.visit.repeats_of.Goals as goal

pub loop-index-preserved : goal.loop-index-preserved
loop-index-preserved c =
    let all = c.args.rows.now in
    let rs = map row_seen all in
    let k = c.loop-index.index in
    let row = c.index-rows-index.result in
    let f = repeats_at (length c.args.recorded.now) c.args.known.now c.args.changing.now in
    let at = slice_get_read all (length all) k row refl (search rules) c.index-rows-index.is in
    let there : slice_get rs k ≡ Some (row_seen row) = slice_get-map row_seen all k ∙ ap (option_map row_seen) at in
    let one : option_to_list c.repeat_of.result ≡ f (k, row_seen row) =
    ap option_to_list (rw (c.known_at-one.ensures, c.other_query_at-other_query.ensures) at c.repeat_of.ensures) in
    c.in_ok-push_some.ensures
    ∙ ap (λ (l : List Repeat). l ++ option_to_list c.repeat_of.result) c.loop-index.invariant
    ∙ ap (λ l. flat_map f (take k (enumerate_from 0 rs)) ++ l) one
    ∙ sym (made_at f rs k (row_seen row) there)

pub returns : goal.returns
returns c =
    let rs = map row_seen c.args.rows.now in
    let all = enumerate_from 0 rs in
    let long : length all ≤ c.loop-index.index =
    omega (arith, c.loop-index-test.false, length-enumerate_from 0 rs, length-map c.args.rows.now row_seen) in
    c.loop-index.invariant
    ∙ ap (flat_map (repeats_at (length c.args.recorded.now) c.args.known.now c.args.changing.now))
    (take_all c.loop-index.index all long)

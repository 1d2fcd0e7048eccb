-- There is no difference exactly if the recorded values are the lines of the text.
use Rattle.std.proofs.Common.{true≢false, get_or, map, sym, ap, ◌∙◌}
use Rattle.std.specs.Str.Iter.{lines_rest}
use Rattle.std.specs.Str.Lines.{lines}
use Rattle.std.proofs.lemmas.Iterator.Consumers.{YieldsList-end, YieldsList-turn}
use Rattle.std.proofs.lemmas.Iterator.Splits.{YieldsList-from_lines}
use Rattle.serde_json.specs.View.{view}
use Rattle.serde_json.specs.Find.{as_str}
use Rattle.cache_replay.proofs.CompareLemmas.{texts, shown, all_shown, next_of, none_and_one, none_more}
use Rattle.cache_replay.proofs.compare.first_difference.Goals as goal
use Rattle.cache_replay.proofs.compare.first_difference.Goals.{in_default-via-in-Some-split_first+else-is_text}
use Rattle.cache_replay.proofs.compare.first_difference.Goals.{in_default-via-in_default}

pub returns-then-is_empty-clause-same : goal.returns-then-is_empty-clause-same
returns-then-is_empty-clause-same c = λ _.
    let start = ap lines_rest c.into_iter-got-iterator.ensures.into_iter_gives ∙ c.lines-got-items.ensures.rest in
    let seen = YieldsList-end (YieldsList-from_lines c.args.text.now start) c.loop-got.yielded _
    c.loop-got.yielded_by _ _ c.in-None.is c.next.ensures.steps in
    all_shown (texts c.args.recorded.now) (map (λ x. x.now) c.loop-got.yielded) (lines c.args.text.now)
    c.loop-got.rest.now c.loop-got.invariant.2 (sym c.if-is_empty.ensures) seen.0

pub returns-in_default-clause-other : goal.returns-in_default-clause-other
returns-in_default-clause-other c = λ _ same.
    let start = ap lines_rest c.into_iter-got-iterator.ensures.into_iter_gives ∙ c.lines-got-items.ensures.rest in
    let at = YieldsList-turn (YieldsList-from_lines c.args.text.now start) c.loop-got.yielded _
    c.loop-got.yielded_by _ _ c.in-Some.got c.in-Some.is c.next.ensures.steps in
    let (v, others, is, read) = next_of c.loop-got.yielded (lines c.args.text.now) c.loop-got.rest.now
    c.in-Some.got.now (sym c.loop-got.invariant.2 ∙ same) at.0 at.1 in
    elim c.in_default.branch [
      | in_default-via-in-Some-split_first+else-is_text w ↦
          let first = ap (λ l. get_or l 0 v) (sym is ∙ w.in-Some-split_first.ensures.cases.0) in
          true≢false (sym (w.if-is_text.ensures.1 (ap (λ x. as_str (view x)) (sym first) ∙ read)))
      | in_default-via-in_default w ↦ none_and_one c.loop-got.rest.now v others w.in_default.ensures.cases is
    ]

pub returns-else-is_empty-clause-other : goal.returns-else-is_empty-clause-other
returns-else-is_empty-clause-other c = λ _ same.
    let start = ap lines_rest c.into_iter-got-iterator.ensures.into_iter_gives ∙ c.lines-got-items.ensures.rest in
    let seen = YieldsList-end (YieldsList-from_lines c.args.text.now start) c.loop-got.yielded _
    c.loop-got.yielded_by _ _ c.in-None.is c.next.ensures.steps in
    let none = none_more (map (λ x. x.now) c.loop-got.yielded) c.loop-got.rest.now
    (sym c.loop-got.invariant.2 ∙ same ∙ ap shown (sym seen.0)) in
    true≢false (sym none ∙ sym c.if-is_empty.ensures)

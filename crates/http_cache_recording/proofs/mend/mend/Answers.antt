-- Each turn mends one unit.
use Rattle.std.proofs.Common.{ℕ, ◌≡◌, ◌+◌, ◌-◌, ◌<◌, ◌≤◌, List, ◌++◌, length, take, drop, sym, ap, ◌∙◌, arith}
use Rattle.std.proofs.lemmas.List.{length-append, length-drop, length-take-le, append_assoc, append-nil}
use Rattle.std.proofs.lemmas.List.{take_all, take_rest, drop_all, take_at, drop_at}
use Rattle.http_cache_recording.specs.Mend.{unit_len, unit, mended}
use Rattle.http_cache_recording.proofs.MendLemmas.{length-unit, mended_step}
use Rattle.http_cache_recording.proofs.mend.mend.Goals as goal

pub loop-position-preserved : goal.loop-position-preserved
loop-position-preserved c =
    let text = c.loop-position.text in
    let position = c.loop-position.position in
    let front = take position text in
    let at = drop position text in
    let len = c.mend_unit-position.result in
    let new = c.mend_unit-position.new.text in
    let has : 0 < length at = omega (arith, length-drop position text) in
    let same = take_rest text position in
    let len_is : len ≡ unit_len at = c.mend_unit-position.ensures.len ∙ ap unit_len same in
    let none = drop_all (length text - position) at (omega (arith, length-drop position text)) in
    let parts =
    ap (λ (p : List ℕ). front ++ (new ++ p)) none
    ∙ ap (λ (n : List ℕ). front ++ n)
    (append-nil new ∙ c.mend_unit-position.ensures.mended ∙ (λ i. unit (same i) ++ drop len (same i)))
    ∙ sym (append_assoc front (unit at) (drop len at)) in
    let long : length (front ++ unit at) ≡ position + len =
    length-append front (unit at)
    ∙ omega (arith, length-take-le position text (omega arith), length-unit at has, len_is) in
    let done = ap (take (position + len)) parts ∙ take_at (front ++ unit at) (drop len at) (position + len) long in
    let left = ap (drop (position + len)) parts ∙ drop_at (front ++ unit at) (drop len at) (position + len) long in
    record {
      within = omega arith;
      whole =
          c.loop-position.invariant.whole ∙ ap (λ m. front ++ m) (mended_step at has)
          ∙ sym (append_assoc front (unit at) (mended (drop (unit_len at) at)))
          ∙ (λ i. sym done i ++ mended ((ap (λ n. drop n at) (sym len_is) ∙ sym left) i));
    }

pub returns : goal.returns
unfolding mended
returns c =
    let text = c.loop-position.text in
    let position = c.loop-position.position in
    let all : length text ≤ position = c.loop-position-test.false in
    sym (c.loop-position.invariant.whole
    ∙ ap (λ m. take position text ++ m) (ap mended (drop_all position text all))
    ∙ append-nil (take position text) ∙ take_all position text all)

-- The text is the unit mended, and then what follows the unit.
use Rattle.std.proofs.Common.{◌≡◌, ◌++◌, take, drop, true, false, sym, ap, ◌∙◌}
use Rattle.std.proofs.lemmas.List.{take-append-drop}
use Rattle.http_cache_recording.specs.Mend.{is_lone}
use Rattle.http_cache_recording.proofs.MendLemmas.{unit_len-lone, unit-lone, unit-kept, plain_len, plain_unit}
use Rattle.http_cache_recording.proofs.mend.mend_unit.Goals as goal

pub returns-then-text-ne92-clause-len : goal.returns-then-text-ne92-clause-len
returns-then-text-ne92-clause-len c = sym (plain_len c.args.text.now c.if-text-ne92.true)

pub returns-then-text-ne92-clause-mended : goal.returns-then-text-ne92-clause-mended
returns-then-text-ne92-clause-mended c =
    let text = c.args.text.now in
    sym (take-append-drop 1 text) ∙ ap (λ u. u ++ drop 1 text) (sym (plain_unit text c.if-text-ne92.true))

pub returns-then-is_lone-clause-mended : goal.returns-then-is_lone-clause-mended
returns-then-is_lone-clause-mended c =
    let text = c.args.text.now in
    let lone : is_lone text ≡ true = sym c.is_lone.ensures.value ∙ c.if-is_lone.true in
    let six = sym (c.unit_len-len.ensures.value ∙ unit_len-lone text lone) in
    let replaced = c.copy_from_slice.ensures.after ∙ sym (unit-lone text lone) in
    λ i. replaced i ++ drop (six i) text

pub returns-else-is_lone-clause-mended : goal.returns-else-is_lone-clause-mended
returns-else-is_lone-clause-mended c =
    let text = c.args.text.now in
    let kept : is_lone text ≡ false = sym c.is_lone.ensures.value ∙ c.if-is_lone.false in
    sym (take-append-drop c.unit_len-len.result text)
    ∙ ap (λ u. u ++ drop c.unit_len-len.result text)
    (ap (λ n. take n text) c.unit_len-len.ensures.value ∙ sym (unit-kept text kept))

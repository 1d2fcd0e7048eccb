-- One more line that isn't the last is passed.
use Rattle.std.proofs.Common.{◌≡◌, ◌∙◌, sym, ap, arith, ℕ, ◌+◌, suc, drop, add-one}
use Rattle.std.proofs.lemmas.List.{take_rest}
use Rattle.http_cache_recording.specs.Heads.{text_len, is_last}
use Rattle.http_cache_recording.proofs.HeadsLemmas.{text_len-next}
use Rattle.http_cache_recording.proofs.heads.text_len.Goals as goal

pub loop-index-preserved : goal.loop-index-preserved
loop-index-preserved c =
    let front = c.args.front.now in
    let i = c.loop-index.index in
    let other = sym (ap is_last (take_rest front i)) ∙ sym c.is_last.ensures ∙ c.if-is_last.false in
    let next = text_len-next front i c.loop-index-test.true other in
    let here : text_len (drop (i + 1) front) ≡ text_len (drop (suc i) front) = ap (λ (n : ℕ). text_len (drop n front)) (add-one i) in
    omega (arith, c.loop-index.invariant, next, here)

-- The text is cut after an `@`, or at its front.
use Rattle.std.proofs.Common.{◌≡◌, ℕ, ◌+◌, ◌-◌, ◌<◌, List, length, get_or, subst, arith}
use Rattle.std.specs.Str.{IsCharBoundary}
use Rattle.std.proofs.lemmas.Str.{IsCharBoundary-after_ascii}
use Rattle.http_cache_recording.proofs.printed.without_credentials.Goals as goal

pub range_from-requires : goal.range_from-requires
range_from-requires c = λ some.
    let text = c.args.text.now in
    let len = c.user_len.result in
    let cut : (len - 1 < length text) × (get_or text (len - 1) 0 < 128) =
    subst (λ (t : List ℕ). (len - 1 < length t) × (get_or t (len - 1) 0 < 128)) c.as_bytes.ensures.value
    (omega (arith, c.user_len.ensures.within), omega (arith, c.user_len.ensures.cut some)) in
    let same : len - 1 + 1 ≡ len = omega arith in
    subst (IsCharBoundary text) same (IsCharBoundary-after_ascii text (len - 1) c.utf8.text cut.0 cut.1)

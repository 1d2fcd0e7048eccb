-- After one more byte the bit is kept only if lower case doesn't change the byte.
use Rattle.std.proofs.Common.{◌≡◌, ◌<◌, ◌+◌, ◌++◌, [], ◌∷◌, length, take}
use Rattle.std.proofs.Common.{bit_and, slice_index_or, rules, sym, subst, ap, ◌∙◌}
use Rattle.std.proofs.lemmas.List.{take_more}
use Rattle.http_cache_fields.proofs.CommonBitLemmas.{HasCommonBit, HasCommonBit-push}
use Rattle.http_cache_fields.proofs.names.is_lower.Goals as goal

pub loop-b-preserved : goal.loop-b-preserved
loop-b-preserved c =
    let bs = c.args.name.now in
    let items = c.as_bytes-b-items.result.now in
    let i = c.loop-b.b-index in
    let b = slice_index_or items i 0 in
    let inside : i < length items = c.loop-b-test.true in
    let small : b < 256 = search rules in
    let same : items ≡ bs = c.as_bytes-b-items.ensures.value in
    let more : take i bs ++ b ∷ [] ≡ take (i + 1) bs =
    ap (λ xs. take i xs ++ b ∷ []) (sym same) ∙ sym (take_more items i 0 inside) ∙ ap (take (i + 1)) same in
    subst (λ ys. HasCommonBit ys (bit_and c.loop-b.common b)) more
    (HasCommonBit-push (take i bs) c.loop-b.common b small c.loop-b.invariant)

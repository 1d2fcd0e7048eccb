use Rattle.std.proofs.Common.{◌≡◌, ◌∙◌, sym, ap, subst, arith, List, ◌∷◌, [], ◌++◌, length, true}
use Rattle.http_cache_recording.specs.Entry.{RecordedSeen}
use Rattle.http_cache_recording.specs.Heads.{front_of, is_heads, AreHeads, with_head}
use Rattle.http_cache_recording.proofs.HeadsLemmas.{next-shorter, heads-push, recorded-push}
use Rattle.http_cache_recording.proofs.heads.recorded_all.Goals as goal

pub loop-front-preserved : goal.loop-front-preserved
loop-front-preserved c =
    let bytes = c.args.bytes.now in
    let front = c.loop-front.front.now in
    let now = c.args.now.nanosecond in
    let head = c.in_ok-head.head in
    let hs = c.loop-front.invariant.heads.0 in
    let begins : is_heads front ≡ true = sym c.is_heads.ensures ∙ c.loop-front-test.true in
    let next = c.cut_of-cut.ensures.next in
    let shorter = next-shorter front begins in
    let left = heads-push (front_of bytes) hs front head c.loop-front.invariant.heads.1 begins c.in_ok-head.ensures.found in
    record {
      within = omega (arith, shorter, ap length next, c.loop-front.invariant.within);
      heads = (
        hs ++ head ∷ [],
        subst (λ l. AreHeads (front_of bytes) (hs ++ head ∷ []) l) (sym next) left,
        c.in_ok-add_head.ensures
            ∙ ap (λ (rs : List RecordedSeen). with_head now rs head) c.loop-front.invariant.heads.2
            ∙ sym (recorded-push now hs head),
      );
    }

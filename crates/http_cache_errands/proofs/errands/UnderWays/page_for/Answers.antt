use Rattle.std.proofs.Common.{◌++◌, ◌∷◌, ◌∙◌, [], ap, sym, ℕ, option_and_then, option_map, is_some}
use Rattle.std.proofs.lemmas.List.{append_assoc}
use Rattle.http_cache_errands.specs.UnderWay.{target_of}
use Rattle.http_cache_errands.specs.declared.errands.UnderWay.{UnderWay}
use Rattle.http_cache_errands.proofs.EntryLemmas.{entry}
use Rattle.http_cache_errands.proofs.errands.UnderWays.page_for.Goals as goal

pub returns-then-is_page_for-clause-target : goal.returns-then-is_page_for-clause-target
returns-then-is_page_for-clause-target c =
    ap (option_and_then target_of) (entry c.args.self.now.by_token c.iter-token-items.ensures.ordered c.loop-token.invariant.2.0
    c.loop-token.token-iterator c.next.new.self c.in-Some.token.now c.in-Some.one.now c.loop-token.invariant.2.1 c.in-Some.ensures.steps) ∙ c.is_page_for.ensures c.if-is_page_for.true

pub returns-then-is_page_for-clause-under_way : goal.returns-then-is_page_for-clause-under_way
returns-then-is_page_for-clause-under_way c =
    ap (λ one. is_some (option_map (λ u. u.id) one)) (entry c.args.self.now.by_token c.iter-token-items.ensures.ordered c.loop-token.invariant.2.0
    c.loop-token.token-iterator c.next.new.self c.in-Some.token.now c.in-Some.one.now c.loop-token.invariant.2.1 c.in-Some.ensures.steps)

pub loop-token-preserved : goal.loop-token-preserved
loop-token-preserved c =
    let done = c.loop-token.invariant.2.0 in
    let one : ℕ × UnderWay = (c.in-Some.token.now, c.in-Some.one.now) in (
      tt,
      tt,
      (
        done ++ one ∷ [],
        c.loop-token.invariant.2.1 ∙ ap (λ es. done ++ es) c.in-Some.ensures.steps ∙ sym (append_assoc done (one ∷ []) c.next.new.self),
      ),
    )

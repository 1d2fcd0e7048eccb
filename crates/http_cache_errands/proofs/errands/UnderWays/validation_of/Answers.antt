use Rattle.std.proofs.Common.{◌≡◌, ◌++◌, ◌∷◌, ◌∙◌, [], ap, sym, ℕ, Some, option_and_then, option_map, is_some, unwrap_or, Option, None, ◌==◌, false, true, true≢false}
use Rattle.std.proofs.lemmas.Bool.{eqb-true}
use Rattle.std.proofs.lemmas.List.{append_assoc}
use Rattle.http_cache_errands.specs.UnderWay.{validated}
use Rattle.http_cache_errands.specs.declared.errands.UnderWay.{UnderWay}
use Rattle.http_cache_errands.proofs.EntryLemmas.{entry}
use Rattle.http_cache_errands.proofs.errands.UnderWays.validation_of.Goals as goal

equal : (v : Option ℕ) (id : ℕ) → unwrap_or (option_map (λ v. v == id) v) false ≡ true → v ≡ Some id
equal None id e = absurd (true≢false (sym e))
equal (Some v) id e = ap Some (eqb-true v id e)

pub returns-then-validates-clause-response : goal.returns-then-validates-clause-response
returns-then-validates-clause-response c =
    ap (option_and_then validated) (entry c.args.self.now.by_token c.iter-token-items.ensures.ordered c.loop-token.invariant.2.0
    c.loop-token.token-iterator c.next.new.self c.in-Some.token.now c.in-Some.one.now c.loop-token.invariant.2.1 c.in-Some.ensures.steps) ∙ equal (validated c.in-Some.one.now) c.args.id.0 (sym c.validates.ensures ∙ c.if-validates.true)

pub returns-then-validates-clause-under_way : goal.returns-then-validates-clause-under_way
returns-then-validates-clause-under_way c =
    ap (λ one. is_some (option_map (λ u. u.id) one)) (entry c.args.self.now.by_token c.iter-token-items.ensures.ordered c.loop-token.invariant.2.0
    c.loop-token.token-iterator c.next.new.self c.in-Some.token.now c.in-Some.one.now c.loop-token.invariant.2.1 c.in-Some.ensures.steps)

pub loop-token-preserved : goal.loop-token-preserved
loop-token-preserved c =
    let done = c.loop-token.invariant.2.0 in
    let one : ℕ × UnderWay = (c.in-Some.token.now, c.in-Some.one.now) in (
      tt,
      tt,
      (
        done ++ one ∷ [],
        c.loop-token.invariant.2.1 ∙ ap (λ es. done ++ es) c.in-Some.ensures.steps ∙ sym (append_assoc done (one ∷ []) c.next.new.self),
      ),
    )

-- The choice is among the policies that were read.
use Rattle.std.proofs.lemmas.Result.{IfOk-weaker}
use Rattle.std.proofs.Common.{inl, inr}
use Rattle.http_cache_bytes.proofs.choice.choose.Goals as goal

pub returns-clause-chosen : goal.returns-clause-chosen
returns-clause-chosen c =
    IfOk-weaker c.choose_for.result _ _ (λ chosen is. (_, c.in_ok-variants.ensures.found, is))
    c.choose_for.ensures.chosen

pub returns-clause-full : goal.returns-clause-full
returns-clause-full c = λ is.
    elim (c.choose_for.ensures.full is) [ inl head ↦ inl head | inr sent ↦ inr (_, c.in_ok-variants.ensures.found, sent) ]

pub returns-clause-unprintable : goal.returns-clause-unprintable
returns-clause-unprintable c = λ is. (_, c.in_ok-variants.ensures.found, c.choose_for.ensures.unprintable is)

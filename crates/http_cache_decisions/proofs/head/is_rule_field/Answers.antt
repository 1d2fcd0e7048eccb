-- The list of names is that of the definition.
use Rattle.std.proofs.Common.{ℕ, List, rules, tests}
use Rattle.std.specs.Borrow.{Bor}
use Rattle.std.proofs.lemmas.Iterator.{YieldsList-from_slice}
use Rattle.std.proofs.lemmas.Iterator.Search.{any_from_yields_List}
use Rattle.http_cache_decisions.specs.Needed.{is_same_name}
use Rattle.http_cache_decisions.specs.StoredHead.{is_rule_field}
use Rattle.http_cache_decisions.proofs.head.is_rule_field.Goals as goal

pub returns : goal.returns
unfolding is_rule_field
returns c =
    any_from_yields_List (λ (read : Bor (List ℕ)). is_same_name read.now c.args.name.now) _ _ _ c.any.ensures.ran
    (YieldsList-from_slice _ c.iter.ensures.rest) (λ x b q k. search (rules, tests))

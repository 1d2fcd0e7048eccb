-- The stored responses are examined in turn.
use Rattle.std.proofs.Common.{rules, tests, ◌∙◌}
use Rattle.std.proofs.lemmas.Iterator.{YieldsList-from_slice}
use Rattle.std.proofs.lemmas.Iterator.Search.{position_from_yields_List}
use Rattle.http_cache_semantics.specs.Messages.{response_seen}
use Rattle.http_cache_semantics.specs.Update.{selects}
use Rattle.http_cache_walk.specs.declared.stored.Stored.{Stored}
use Rattle.http_cache_walk.specs.Stored.{StoredSeen, stored_seen}
use Rattle.http_cache_walk.proofs.StoredLemmas.{position-map}
use Rattle.http_cache_walk.proofs.stored.first_selected.Goals as goal

pub returns-clause-value : goal.returns-clause-value
returns-clause-value c =
    let r = response_seen c.args.response.now in
    position_from_yields_List (λ (x : Stored). selects x.policy r) _ _ c.position.result c.position.ensures.ran
    (YieldsList-from_slice c.args.list.now cc) (λ x b q k. search (rules, tests))
    ∙ position-map (λ (s : StoredSeen). selects s.exchange r) stored_seen c.args.list.now

-- The stored responses are examined in turn.
use Rattle.std.proofs.Common.{rules, tests, ◌∙◌}
use Rattle.std.proofs.lemmas.Iterator.{YieldsList-from_slice}
use Rattle.std.proofs.lemmas.Iterator.Search.{any_from_yields_List}
use Rattle.http_cache_walk.specs.declared.stored.Stored.{Stored}
use Rattle.http_cache_walk.specs.Stored.{stored_seen, is_of_all}
use Rattle.http_cache_walk.proofs.StoredLemmas.{list_any-map}
use Rattle.http_cache_walk.proofs.stored.any_is_of_all.Goals as goal

pub returns : goal.returns
returns c =
    any_from_yields_List (λ (x : Stored). is_of_all (stored_seen x)) _ _ _ c.any.ensures.ran
    (YieldsList-from_slice c.args.kept.now cc) (λ x b q k. search (rules, tests))
    ∙ list_any-map is_of_all stored_seen c.args.kept.now

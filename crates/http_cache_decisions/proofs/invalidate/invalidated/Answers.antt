-- The own target is the first of the removed ones, and the fields add theirs.
use Rattle.std.proofs.Common.{◌≡◌, rules, subst}
use Rattle.std.specs.Prelude.{List, ℕ, Option, map, option_copied, ◌++◌, [], ◌∷◌, codes}
use Rattle.http_cache_store.specs.Target.{text_of}
use Rattle.http_cache_store.specs.declared.target.Target.{Target}
use Rattle.http_cache_decisions.specs.Invalidate.{IsNamedInField, list_of, requested}
use Rattle.http_cache_decisions.proofs.InvalidateLemmas.{AddsNamed, AreInvalidated-with_named}
use Rattle.http_cache_decisions.proofs.invalidate.invalidated.Goals as goal

pub returns-clause-removed : goal.returns-clause-removed
returns-clause-removed c invalid =
    let request = c.args.request.now in
    let own = c.in_ok-of.field-0 in
    let Adds : List Target → List Target → Option (List ℕ) → Type 0 = λ old new reference. (named : Option (List ℕ))
    × IsNamedInField request reference named × (map text_of new ≡ map text_of old ++ list_of named) in
    let is : text_of own ≡ requested request = search rules in
    let located = c.add_named.new.targets.items in
    let first : Adds (own ∷ []) located (option_copied c.first_text-location.result) = search rules in
    AreInvalidated-with_named request c.args.head.now own located c.add_named-2.new.targets.items is
    (subst (Adds (own ∷ []) located) c.first_text-location.ensures first)
    (subst (Adds located c.add_named-2.new.targets.items) c.first_text-content_location.ensures c.in_ok-add_named-2.ensures)

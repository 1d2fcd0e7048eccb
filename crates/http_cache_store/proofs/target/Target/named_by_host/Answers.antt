-- The text is a URI, and the target is what that names.
use Rattle.std.proofs.Common.{◌≡◌, ℕ, List, Option, Some, inl, subst, ◌∙◌}
use Rattle.std.specs.Option.{MatchOption}
use Rattle.http_uri.specs.Uri.{Spells, SpellsNone}
use Rattle.http_uri.specs.declared.uri.Uri.{Uri}
use Rattle.http_cache_store.specs.Reference.{with_scheme}
use Rattle.http_cache_store.proofs.target.Target.named_by_host.Goals as goal

pub returns : goal.returns
returns c =
    let text = with_scheme c.args.origin.scheme.now c.args.reference.now in
    let is : c.as_str.result.now ≡ text = c.as_str.ensures.value ∙ c.in_ok-text.ensures in
    let read : MatchOption (Some c.in-Some.uri) (SpellsNone text) (Spells text) =
    subst (λ (o : Option Uri). MatchOption o (SpellsNone text) (Spells text)) c.in-Some.is
    (subst (λ (t : List ℕ). MatchOption c.in_ok-uri.field-0 (SpellsNone t) (Spells t)) is c.in_ok-uri.ensures) in
    inl (c.in-Some.uri, read, c.in_ok-named.ensures)

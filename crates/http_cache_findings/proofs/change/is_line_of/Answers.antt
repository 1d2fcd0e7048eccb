-- After the loop the text after all pieces is left.
use Rattle.std.proofs.Common.{◌≡◌, ◌∙◌, ap, refl, Option, Some, None, option_map, is_some, fold, lit<}
use Rattle.std.proofs.lemmas.Iterator.Consumers.{YieldsList-end}
use Rattle.std.proofs.lemmas.Iterator.Splits.{YieldsList-from_str_split}
use Rattle.http_cache_findings.specs.Change.{after}
use Rattle.http_cache_findings.proofs.change.is_line_of.Goals as goal

some-map : {X Y : Type 0} (f : X → Y) (o : Option X) → is_some o ≡ is_some (option_map f o)
some-map f None = refl
some-map f (Some x) = refl

pub returns : goal.returns
returns c =
    let seen = YieldsList-end (YieldsList-from_str_split 42 c.args.pattern.now (lit< tt) (cc) (cc) (cc))
    c.loop-piece.yielded _ c.loop-piece.yielded_by _ _ c.in-None.is c.next.ensures.steps in
    c.is_some.ensures ∙ some-map (λ t. t.now) c.loop-piece.left
    ∙ ap is_some (c.loop-piece.invariant ∙ ap (fold after (Some c.args.line.now)) seen.0)

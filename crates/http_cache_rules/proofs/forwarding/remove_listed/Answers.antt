-- Each listed name is removed.
use Rattle.std.proofs.Common.{ℕ, List, [], ◌∷◌, map, ap, sym, ◌∙◌}
use Rattle.std.specs.Borrow.{Bor}
use Rattle.std.specs.FinMap as fin
use Rattle.std.proofs.lemmas.List.{map-append}
use Rattle.http_header.specs.Token.{lowercase}
use Rattle.http_cache_fields.specs.Headers.{Headers, headers_of}
use Rattle.http_cache_rules.specs.Forwarding.{without_named}
use Rattle.http_cache_rules.proofs.ForwardingLemmas.{without_named-none, without_named-push}
use Rattle.http_cache_rules.proofs.forwarding.remove_listed.Goals as goal

pub loop-name-init : goal.loop-name-init
loop-name-init c = (tt, tt, sym (without_named-none (headers_of c.args.headers.now)))

pub loop-name-preserved : goal.loop-name-preserved
loop-name-preserved c =
    let seen = map (λ (y : Bor (List ℕ)). y.now) c.loop-name.yielded in
    let text = c.in-Some.name.now in
    let h = headers_of c.args.headers.now in (
      tt,
      tt,
      c.remove.ensures ∙ ap (λ (g : Headers). fin.remove g (lowercase text)) c.loop-name.invariant.2
          ∙ without_named-push seen text h
          ∙ ap (λ (ts : List (List ℕ)). without_named ts h)
          (sym (map-append (λ (y : Bor (List ℕ)). y.now) c.loop-name.yielded (c.in-Some.name ∷ []))),
    )

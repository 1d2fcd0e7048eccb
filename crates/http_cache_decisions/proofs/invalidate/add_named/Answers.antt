-- The named target is the one more, or there is none.
use Rattle.std.proofs.Common.{◌≡◌, ℕ, List, [], ◌∷◌, Option, Some, None, Bor, map, ap, sym, subst, ◌∙◌}
use Rattle.std.specs.Prelude.{option_copied, option_map}
use Rattle.std.proofs.lemmas.List.{append-nil, map-append}
use Rattle.http.specs.Request.{head_of}
use Rattle.http_uri.specs.declared.uri.Uri.{Uri}
use Rattle.http_cache_fields.specs.Headers.{Headers, headers_of}
use Rattle.http_cache_store.specs.Target.{text_of, IsNamed}
use Rattle.http_cache_store.specs.declared.target.Target.{Target}
use Rattle.http_cache_decisions.specs.Invalidate.{IsNamedInField}
use Rattle.http_cache_decisions.proofs.invalidate.add_named.Goals as goal

pub returns-in_ok-push-in-Some-2 : goal.returns-in_ok-push-in-Some-2
returns-in_ok-push-in-Some-2 c =
    let head = head_of c.args.request.now in
    let reference = c.in-Some.reference.now in
    let named = c.in_ok-named.field-0 in
    let found : IsNamed head.uri (headers_of head.headers) reference (option_map text_of named) =
    subst (λ (u : Uri). IsNamed u (headers_of head.headers) reference (option_map text_of named)) c.uri.ensures
    (subst (λ (h : Headers). IsNamed c.uri.result.now h reference (option_map text_of named)) (ap headers_of c.headers.ensures)
    c.in_ok-named.ensures.named) in
    let one = c.in-Some-2.named in (
      Some (text_of one),
      subst (λ (o : Option (Bor (List ℕ))). IsNamedInField c.args.request.now (option_copied o) (Some (text_of one))) (sym c.in-Some.is)
          (subst (λ (o : Option Target). IsNamed head.uri (headers_of head.headers) reference (option_map text_of o)) c.in-Some-2.is found),
      ap (map text_of) c.in_ok-push-in-Some-2.ensures.items ∙ map-append text_of c.args.targets.now.items (one ∷ []),
    )

pub returns-in-None : goal.returns-in-None
returns-in-None c =
    let head = head_of c.args.request.now in
    let reference = c.in-Some.reference.now in
    let named = c.in_ok-named.field-0 in
    let found : IsNamed head.uri (headers_of head.headers) reference (option_map text_of named) =
    subst (λ (u : Uri). IsNamed u (headers_of head.headers) reference (option_map text_of named)) c.uri.ensures
    (subst (λ (h : Headers). IsNamed c.uri.result.now h reference (option_map text_of named)) (ap headers_of c.headers.ensures)
    c.in_ok-named.ensures.named) in (
      None,
      subst (λ (o : Option (Bor (List ℕ))). IsNamedInField c.args.request.now (option_copied o) None) (sym c.in-Some.is)
          (subst (λ (o : Option Target). IsNamed head.uri (headers_of head.headers) reference (option_map text_of o)) c.in-None.is found),
      sym (append-nil (map text_of c.args.targets.now.items)),
    )

-- A name that Connection lists is removed in any case, and `warning` stays.
use Rattle.std.proofs.Common.{◌≡◌, ◌≢◌, ℕ, List, [], ◌∷◌, map, codes, true≢false, ap, sym, subst, ◌∙◌}
use Rattle.std.specs.Borrow.{Bor}
use Rattle.std.specs.FinMap as fin
use Rattle.std.proofs.lemmas.List.{map-append}
use Rattle.http_header.specs.Token.{lowercase}
use Rattle.http_cache_fields.specs.Headers.{Headers, headers_of, IsAbsent}
use Rattle.http_cache_rules.specs.Filter.{without_listed}
use Rattle.http_cache_rules.proofs.FilterLemmas.{without_listed-none, listed-other, listed-warning, listed-absent}
use Rattle.http_cache_rules.proofs.filter.remove_listed.Goals as goal

pub loop-name-init : goal.loop-name-init
loop-name-init c = (tt, tt, sym (without_listed-none (headers_of c.args.out.now)))

pub loop-name-preserved-then-eq_ignore_ascii_case : goal.loop-name-preserved-then-eq_ignore_ascii_case
loop-name-preserved-then-eq_ignore_ascii_case c =
    let seen = map (λ (y : Bor (List ℕ)). y.now) c.loop-name.yielded in
    let text = c.in-Some.name.now in
    let h = headers_of c.args.out.now in
    let same : lowercase text ≡ codes "keep-alive" =
    c.eq_ignore_ascii_case.ensures.test.0 c.if-eq_ignore_ascii_case.true in
    let absent : IsAbsent h (lowercase text) =
    subst (λ (name : List ℕ). IsAbsent h name) (sym same) c.requires in (
      tt,
      tt,
      c.loop-name.invariant.2 ∙ listed-absent seen text h absent
          ∙ ap (λ (ts : List (List ℕ)). without_listed ts h)
          (sym (map-append (λ (y : Bor (List ℕ)). y.now) c.loop-name.yielded (c.in-Some.name ∷ []))),
    )

pub loop-name-preserved-then-eq_ignore_ascii_case-2 : goal.loop-name-preserved-then-eq_ignore_ascii_case-2
loop-name-preserved-then-eq_ignore_ascii_case-2 c =
    let seen = map (λ (y : Bor (List ℕ)). y.now) c.loop-name.yielded in
    let text = c.in-Some.name.now in
    let h = headers_of c.args.out.now in
    let same : lowercase text ≡ codes "warning" =
    c.eq_ignore_ascii_case-in-loop-name.ensures.test.0 c.if-eq_ignore_ascii_case-2.true in (
      tt,
      tt,
      c.loop-name.invariant.2 ∙ listed-warning seen text h same
          ∙ ap (λ (ts : List (List ℕ)). without_listed ts h)
          (sym (map-append (λ (y : Bor (List ℕ)). y.now) c.loop-name.yielded (c.in-Some.name ∷ []))),
    )

pub loop-name-preserved : goal.loop-name-preserved
loop-name-preserved c =
    let seen = map (λ (y : Bor (List ℕ)). y.now) c.loop-name.yielded in
    let text = c.in-Some.name.now in
    let h = headers_of c.args.out.now in
    let apart : lowercase text ≢ codes "warning" =
    λ same. true≢false (sym (c.eq_ignore_ascii_case-in-loop-name.ensures.test.1 same)
    ∙ c.if-eq_ignore_ascii_case-2.false) in (
      tt,
      tt,
      c.remove.ensures ∙ ap (λ (g : Headers). fin.remove g (lowercase text)) c.loop-name.invariant.2
          ∙ listed-other seen text h apart
          ∙ ap (λ (ts : List (List ℕ)). without_listed ts h)
          (sym (map-append (λ (y : Bor (List ℕ)). y.now) c.loop-name.yielded (c.in-Some.name ∷ []))),
    )

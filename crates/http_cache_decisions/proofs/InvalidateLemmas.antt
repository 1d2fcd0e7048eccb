-- The request's own target and those that the fields of a response name are what the response removes.
use Rattle.std.proofs.Common.{◌≡◌, ℕ, List, [], ◌∷◌, ◌++◌, map, Option, ap, ◌∙◌}
use Rattle.std.specs.Prelude.{codes}
use Rattle.http.specs.declared.request.Request.{Request}
use Rattle.http.specs.declared.response.Parts.{Parts}
use Rattle.http_cache_fields.specs.Headers.{headers_of, first_text}
use Rattle.http_cache_store.specs.Target.{text_of}
use Rattle.http_cache_store.specs.declared.target.Target.{Target}
use Rattle.http_cache_decisions.specs.Invalidate.{IsNamedInField, AreInvalidated, list_of, requested}

module _ (request : Request (List ℕ)) (head : Parts) where
  -- a field adds the target that it names to the old ones
  abbrev pub AddsNamed : List ℕ → List Target → List Target → Type 0
  AddsNamed field old new =
      (named : Option (List ℕ)) × IsNamedInField request (first_text (headers_of head.headers) field) named
      × (map text_of new ≡ map text_of old ++ list_of named)

  pub AreInvalidated-with_named : (own : Target) (located targets : List Target) → text_of own ≡ requested request
      → AddsNamed (codes "location") (own ∷ []) located → AddsNamed (codes "content-location") located targets
      → AreInvalidated request head (map text_of targets)
  AreInvalidated-with_named own located targets is by_location by_content = record {
    location = by_location.0;
    is_location = by_location.1;
    content_location = by_content.0;
    is_content_location = by_content.1;
    all =
        by_content.2
        ∙ ap (λ (ts : List (List ℕ)). ts ++ list_of by_content.0)
        (by_location.2 ∙ ap (λ (t : List ℕ). t ∷ list_of by_location.0) is);
  }

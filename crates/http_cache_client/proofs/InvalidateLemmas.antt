-- After a response that invalidates, nothing is stored for the request's own target.
use Rattle.std.proofs.Common.{◌≡◌, ◌⊎◌, ℕ, true, ◌||◌, List, [], ◌∷◌, ◌++◌, map, ap, refl, inl, inr, ◌∙◌}
use Rattle.std.specs.Prelude.{bytes_eq}
use Rattle.std.specs.List.{list_any}
use Rattle.std.proofs.lemmas.Bool.{cond-true}
use Rattle.std.proofs.lemmas.Slice.Eq.{bytes_eq-Decides}
use Rattle.http.specs.declared.request.Request.{Request}
use Rattle.http.specs.declared.response.Parts.{Parts}
use Rattle.http_cache_store.specs.Store.{StoredByTarget, RemovesThese}
use Rattle.http_cache_store.specs.Target.{text_of}
use Rattle.http_cache_decisions.specs.Invalidate.{list_of, requested, RemovesInvalidated}
use Rattle.http_cache_decisions.specs.declared.plan.Change.{Change}
use Rattle.http_cache_decisions.specs.declared.plan.Change.TheVariants.{Nothing, Put, Renew, Remove, RemoveTargets}
use Rattle.http_cache_client.specs.Receive.{HasInvalidated}
use Rattle.http_cache_client.specs.Taken.{IsCommitted}

removed_text : (own : List ℕ) (others these : List (List ℕ)) (old new : StoredByTarget)
    → these ≡ own ∷ others → RemovesThese these old new → new own ≡ []
removed_text own others these old new is removed =
    let any : list_any (bytes_eq own) these ≡ true =
    ap (list_any (bytes_eq own)) is
    ∙ ap (λ b. b || list_any (bytes_eq own) others) ((bytes_eq-Decides own own).1 refl) in
    removed own ∙ cond-true (list_any (bytes_eq own) these) [] (old own) any

pub own-invalidated : (request : Request (List ℕ)) (head : Parts) (lasting after : StoredByTarget)
    → HasInvalidated request head lasting after → after (requested request) ≡ []
own-invalidated request head lasting after has =
    removed_text (requested request) (list_of has.invalidated.location ++ list_of has.invalidated.content_location) has.targets
    lasting after has.invalidated.all has.removed

pub HasInvalidated-made : (request : Request (List ℕ)) (head : Parts) (mark : List ℕ → List ℕ) (may_fail : Type 0)
    (before lasting : StoredByTarget) (next : ℕ) (after : StoredByTarget) (next_after : ℕ) (change : Change)
    → RemovesInvalidated request head change
    → IsCommitted mark may_fail before next after next_after lasting change
    → HasInvalidated request head lasting after
HasInvalidated-made request head mark may_fail before lasting next after next_after Nothing removes made = absurd removes
HasInvalidated-made request head mark may_fail before lasting next after next_after (Put _ _ _ _) removes made = absurd removes
HasInvalidated-made request head mark may_fail before lasting next after next_after (Renew _ _ _ _) removes made = absurd removes
HasInvalidated-made request head mark may_fail before lasting next after next_after (Remove _ _) removes made = absurd removes
HasInvalidated-made request head mark may_fail before lasting next after next_after (RemoveTargets targets) removes made =
    elim made [
      | inl done ↦ record { targets = map text_of targets.items; invalidated = removes; removed = done.left }
      | inr failed ↦ absurd failed.1
    ]

-- The images of a filter's elements so far, after one more element, and bodies that are whole.
use Rattle.std.proofs.Common.{◌≡◌, ℕ, ◌+◌, ◌<◌, Bool, true, false, List, [], ◌∷◌, ◌++◌, map, take, length, get_or, cond, not, refl, ap, ◌∙◌, Some}
use Rattle.std.specs.List.{filter}
use Rattle.http_cache_decisions.specs.Plan.{IsCopyOf, IsBodyOf}
use Rattle.http_cache_decisions.specs.declared.body.Body.{Body}
use Rattle.http_cache_decisions.specs.declared.body.Body.TheVariants.{Here, Elsewhere}
use Rattle.std.proofs.lemmas.List.{map-append, append-nil}
use Rattle.std.proofs.lemmas.List.Elements.{filter_more}

module _ {X Y : Type 0} (f : X → Y) (p : X → Bool) (xs : List X) (i : ℕ) (d : X) (l : i < length xs) where
  both : map f (filter p (take (i + 1) xs))
      ≡ map f (filter p (take i xs)) ++ map f (cond (p (get_or xs i d)) (get_or xs i d ∷ []) [])
  both = ap (map f) (filter_more p xs i d l)
      ∙ map-append f (filter p (take i xs)) (cond (p (get_or xs i d)) (get_or xs i d ∷ []) [])

  pub images_kept : p (get_or xs i d) ≡ true
      → map f (filter p (take (i + 1) xs)) ≡ map f (filter p (take i xs)) ++ f (get_or xs i d) ∷ []
  images_kept passes =
      both ∙ ap (λ (b : Bool). map f (filter p (take i xs)) ++ map f (cond b (get_or xs i d ∷ []) [])) passes

  pub images_left : p (get_or xs i d) ≡ false
      → map f (filter p (take (i + 1) xs)) ≡ map f (filter p (take i xs))
  images_left fails =
      both ∙ ap (λ (b : Bool). map f (filter p (take i xs)) ++ map f (cond b (get_or xs i d ∷ []) [])) fails
      ∙ append-nil (map f (filter p (take i xs)))

pub IsBodyOf-from_copy : (body : Body) (copy : List ℕ) → IsCopyOf body (Some copy) → IsBodyOf body copy
IsBodyOf-from_copy (Here bytes) copy is = is
IsBodyOf-from_copy (Elsewhere outside) copy is = is

pub uncut : (cut : Bool) → not cut ≡ true → cut ≡ false
uncut true e = let no = e in cc
uncut false e = refl

-- Look-ups in a list of entries that was changed at another key.
use Rattle.std.proofs.Common.{◌≡◌, ℕ, zero, suc, Bool, true, false, List, [], ◌∷◌, ◌++◌, take, cond, Option, Some, None, refl, sym, ap, ◌∙◌, inl, inr, ◌⊎◌}
use Rattle.std.specs.Cmp.{IsEquivalence}
use Rattle.std.specs.List.{IsDistinct}
use Rattle.std.specs.Option.{option_map_or}
use Rattle.std.specs.Map.{keys_of, lookup, lookup_entry, remove_entry, set_value}
use Rattle.std.proofs.lemmas.Map.{lookup-remove_entry}
use Rattle.lru.specs.LruCache.{promoted}
use Rattle.lru.proofs.CallerLemmas.{Contains-lookup_entry}

module _ {K : Type 0} (test query : K → Bool) where
  -- if one key passes both tests, they agree on every key
  abbrev pub Agree : Type 0
  Agree = (x : K) → test x ≡ true → query x ≡ true → (y : K) → query y ≡ test y

  abbrev pub Apart : Type 0
  Apart = (x : K) → test x ≡ true → query x ≡ false

module _ {K V : Type 0} (test query : K → Bool) where
  below_entry : Agree test query → (f e : K × V) (es : List (K × V)) → test f.0 ≡ false → test e.0 ≡ true
      → lookup query (e ∷ remove_entry test es) ≡ lookup query es
      → lookup query (e ∷ remove_entry test (f ∷ es)) ≡ lookup query (f ∷ es)
  below_entry agree f e es p key on =
      (elim (query e.0) as (λ b. query e.0 ≡ b → lookup query (e ∷ remove_entry test (f ∷ es)) ≡ lookup query (f ∷ es)) [
        | true ↦ λ q. let other : query f.0 ≡ false = agree e.0 key q f.0 ∙ p in rw (q, other) (rw q at on)
        | false ↦ λ q. rw (q, p) (ap (cond (query f.0) (Some f.1)) (rw q at on))
      ]) refl

  moved : Agree test query → (es : List (K × V)) (e : K × V) → lookup_entry test es ≡ Some e
      → lookup query (e ∷ remove_entry test es) ≡ lookup query es
  moved agree [] e h = cc
  moved agree (f ∷ es) e h =
      (elim (test f.0) as (λ b. test f.0 ≡ b → lookup query (e ∷ remove_entry test (f ∷ es)) ≡ lookup query (f ∷ es)) [
        | true ↦ λ p. let h' = rw p at h in let same : f ≡ e = cc in rw p (ap (λ g. lookup query (g ∷ es)) (sym same))
        | false ↦ λ p. below_entry agree f e es p (Contains-lookup_entry test es e (rw p at h)).1 (moved agree es e (rw p at h))
      ]) refl

  at_entry : Agree test query → (es : List (K × V)) (o : Option (K × V)) → lookup_entry test es ≡ o
      → lookup query (option_map_or (λ e. e ∷ remove_entry test es) o es) ≡ lookup query es
  at_entry agree es None h = refl
  at_entry agree es (Some e) h = moved agree es e h

  pub lookup-promoted : Agree test query → (es : List (K × V)) → lookup query (promoted test es) ≡ lookup query es
  lookup-promoted agree es = at_entry agree es (lookup_entry test es) refl

  pub lookup-set_value_other : Apart test query → (es : List (K × V)) (w : V) → lookup query (set_value test es w) ≡ lookup query es
  lookup-set_value_other apart [] w = refl
  lookup-set_value_other apart (e ∷ es) w =
      (elim (test e.0) as (λ b. test e.0 ≡ b → lookup query (set_value test (e ∷ es) w) ≡ lookup query (e ∷ es)) [
        | true ↦ λ p. let q : query e.0 ≡ false = apart e.0 p in rw (p, q) refl
        | false ↦ λ p. rw p (ap (cond (query e.0) (Some e.1)) (lookup-set_value_other apart es w))
      ]) refl

  pub lookup-remove_entry_other : Apart test query → (es : List (K × V)) → lookup query (remove_entry test es) ≡ lookup query es
  lookup-remove_entry_other apart [] = refl
  lookup-remove_entry_other apart (e ∷ es) =
      (elim (test e.0) as (λ b. test e.0 ≡ b → lookup query (remove_entry test (e ∷ es)) ≡ lookup query (e ∷ es)) [
        | true ↦ λ p. let q : query e.0 ≡ false = apart e.0 p in rw (p, q) refl
        | false ↦ λ p. rw p (ap (cond (query e.0) (Some e.1)) (lookup-remove_entry_other apart es))
      ]) refl

module _ {K V : Type 0} (test : K → Bool) where
  pub lookup-set_value_same : (es : List (K × V)) (v w : V) → lookup test es ≡ Some v → lookup test (set_value test es w) ≡ Some w
  lookup-set_value_same [] v w h = cc
  lookup-set_value_same (e ∷ es) v w h =
      (elim (test e.0) as (λ b. test e.0 ≡ b → lookup test (set_value test (e ∷ es) w) ≡ Some w) [
        | true ↦ λ p. rw (p, p) refl
        | false ↦ λ p. rw (p, p) (lookup-set_value_same es v w (rw p at h))
      ]) refl

  absent : (es : List (K × V)) → lookup_entry test es ≡ None → lookup test (remove_entry test es) ≡ None
  absent [] h = refl
  absent (e ∷ es) h =
      (elim (test e.0) as (λ b. test e.0 ≡ b → lookup test (remove_entry test (e ∷ es)) ≡ None) [
        | true ↦ λ p. let h' = rw p at h in cc
        | false ↦ λ p. rw (p, p) (absent es (rw p at h))
      ]) refl

  removed : {eq : K → K → Bool} → IsEquivalence eq → ((x y : K) → test x ≡ true → test y ≡ eq x y)
      → (es : List (K × V)) → IsDistinct eq (keys_of es) → (o : Option (K × V)) → lookup_entry test es ≡ o
      → lookup test (remove_entry test es) ≡ None
  removed laws one es d None h = absent es h
  removed {eq} laws one es d (Some e) h =
      let key = (Contains-lookup_entry test es e h).1 in
      let same : test ≡ eq e.0 = λ i y. one e.0 y key i in
      ap (λ q. lookup q (remove_entry test es)) same
      ∙ lookup-remove_entry laws test one e.0 es d
      ∙ ap (λ b. cond b None (lookup (eq e.0) es)) key

  pub lookup-remove_entry_same : {eq : K → K → Bool} → IsEquivalence eq → ((x y : K) → test x ≡ true → test y ≡ eq x y)
      → (es : List (K × V)) → IsDistinct eq (keys_of es) → lookup test (remove_entry test es) ≡ None
  lookup-remove_entry_same laws one es d = removed laws one es d (lookup_entry test es) refl

  pub none-found : (es : List (K × V)) → lookup_entry test es ≡ None → lookup test es ≡ None
  none-found [] h = refl
  none-found (e ∷ es) h =
      (elim (test e.0) as (λ b. test e.0 ≡ b → lookup test (e ∷ es) ≡ None) [
        | true ↦ λ p. let h' = rw p at h in cc
        | false ↦ λ p. rw p (none-found es (rw p at h))
      ]) refl

module _ {K V : Type 0} where
  -- the first entries show what all show, or nothing
  pub lookup-take : (query : K → Bool) (n : ℕ) (es : List (K × V))
      → (lookup query (take n es) ≡ lookup query es) ⊎ (lookup query (take n es) ≡ None)
  lookup-take query zero es = inr refl
  lookup-take query (suc n) [] = inl refl
  lookup-take query (suc n) (e ∷ es) =
      (elim (query e.0) as (λ b. query e.0 ≡ b → (lookup query (take (suc n) (e ∷ es)) ≡ lookup query (e ∷ es)) ⊎ (lookup query (take (suc n) (e ∷ es)) ≡ None)) [
        | true ↦ λ p. inl (rw p refl)
        | false ↦ λ p. rw p (lookup-take query n es)
      ]) refl

  pub no-entry : (query : K → Bool) (es : List (K × V)) → lookup query es ≡ None → lookup_entry query es ≡ None
  no-entry query [] h = refl
  no-entry query (e ∷ es) h =
      (elim (query e.0) as (λ b. query e.0 ≡ b → lookup_entry query (e ∷ es) ≡ None) [
        | true ↦ λ p. let h' = rw p at h in cc
        | false ↦ λ p. rw p (no-entry query es (rw p at h))
      ]) refl

pub some-entry : {K V : Type 0} (test : K → Bool) (es : List (K × V)) (v : V) → lookup test es ≡ Some v → (e : K × V) × (lookup_entry test es ≡ Some e)
some-entry test [] v h = cc
some-entry {K} {V} test (f ∷ es) v h =
    (elim (test f.0) as (λ b. test f.0 ≡ b → (e : K × V) × (lookup_entry test (f ∷ es) ≡ Some e)) [
      | true ↦ λ p. (f, rw p refl)
      | false ↦ λ p. let below = some-entry test es v (rw p at h) in (below.0, rw p below.1)
    ]) refl

pub lookup-front : {K V : Type 0} (query : K → Bool) (es back : List (K × V))
    → (lookup query es ≡ lookup query (es ++ back)) ⊎ (lookup query es ≡ None)
lookup-front query [] back = inr refl
lookup-front query (e ∷ es) back =
    (elim (query e.0) as (λ b. query e.0 ≡ b → (lookup query (e ∷ es) ≡ lookup query (e ∷ es ++ back)) ⊎ (lookup query (e ∷ es) ≡ None)) [
      | true ↦ λ p. inl (rw p refl)
      | false ↦ λ p. rw p (lookup-front query es back)
    ]) refl

-- Ids stay below the next one, and each below the ids of newer responses.
use Rattle.std.proofs.Common.{◌≤◌, ◌+◌, ◌≡◌, arith, ℕ, ℤ, Bool, true, false, List, [], ◌∷◌, ◌++◌, cond, not, nat_eq, bytes_eq, refl, sym, ap, subst, ◌∙◌, inl, inr}
use Rattle.std.specs.List.{filter, list_any}
use Rattle.std.proofs.lemmas.Slice.Eq.{bytes_eq-Decides}
use Rattle.http_cache_policy.specs.Exchange.{Exchange}
use Rattle.http_cache_store.specs.Worth.{can_be_used_again}
use Rattle.http_cache_store.specs.declared.store.ResponseId.{ResponseId}
use Rattle.http_cache_store.specs.Store.{StoredSeen, StoredByTarget, AreIdsBelow, KeepsOthers, RemovesThese, IsSwept, AreNewestOf, usable, renewed, without}
use Rattle.http_cache_memory_store.specs.Index.{HasUnder, HasFirst}
use Rattle.http_cache_memory_store.specs.Stored.{AreAllBelow}
use Rattle.http_cache_memory_store.proofs.MapLemmas.{true≢false}

pub below-none : (n : ℕ) → AreIdsBelow n []
below-none n = tt

pub below-more : (n m : ℕ) (xs : List StoredSeen) → n ≤ m → AreIdsBelow n xs → AreIdsBelow m xs
below-more n m [] more h = tt
below-more n m (x ∷ xs) more h = (omega (arith, h.0), h.1)

pub below-same : (n : ℕ) (xs ys : List StoredSeen) → xs ≡ ys → AreIdsBelow n ys → AreIdsBelow n xs
below-same n xs ys same h = subst (AreIdsBelow n) (sym same) h

-- replacing a policy keeps the ids
below-renewed : (n id : ℕ) (e : Exchange) (xs : List StoredSeen) → AreIdsBelow n xs → AreIdsBelow n (renewed id e xs)
below-renewed n id e [] h = h
below-renewed n id e (x ∷ xs) h =
    (elim (nat_eq x.id id) as (λ b. nat_eq x.id id ≡ b → AreIdsBelow n (renewed id e (x ∷ xs))) [
      | true ↦ λ q. rw q (h.0, h.1)
      | false ↦ λ q. rw q (h.0, below-renewed x.id id e xs h.1)
    ]) refl

pub below-filter : (n : ℕ) (p : StoredSeen → Bool) (xs : List StoredSeen) → AreIdsBelow n xs → AreIdsBelow n (filter p xs)
below-filter n p [] h = h
below-filter n p (x ∷ xs) h =
    (elim (p x) as (λ b. p x ≡ b → AreIdsBelow n (filter p (x ∷ xs))) [
      | true ↦ λ q. rw q (h.0, below-filter x.id p xs h.1)
      | false ↦ λ q. rw q (below-filter n p xs (below-more x.id n xs (omega (arith, h.0)) h.1))
    ]) refl

below-without : (n : ℕ) (ids : List ResponseId) (xs : List StoredSeen) → AreIdsBelow n xs → AreIdsBelow n (without ids xs)
below-without n ids xs h = below-filter n (λ (r : StoredSeen). not (list_any (λ id. nat_eq r.id id.0) ids)) xs h

below-front : (n : ℕ) (xs ys : List StoredSeen) → AreIdsBelow n (xs ++ ys) → AreIdsBelow n xs
below-front n [] ys h = tt
below-front n (x ∷ xs) ys h = (h.0, below-front x.id xs ys h.1)

-- under each text all ids are below the number
abbrev pub AllBelow : ℕ → StoredByTarget → Type 0
AllBelow = AreAllBelow

-- as each other text keeps its responses or has none, only the text's own ids matter
by-text : (n : ℕ) (own : List ℕ) (old new : StoredByTarget) → KeepsOthers old new own
    → AllBelow n old → AreIdsBelow n (new own) → AllBelow n new
by-text n own old new others before own_below = λ text.
    (elim (bytes_eq text own) as (λ b. bytes_eq text own ≡ b → AreIdsBelow n (new text)) [
      | true ↦ λ h. below-same n (new text) (new own) (ap new ((bytes_eq-Decides text own).0 h)) own_below
      | false ↦ λ h. elim (others text (λ is. true≢false (sym ((bytes_eq-Decides text own).1 is) ∙ h))) [
        | inl same ↦ below-same n (new text) (old text) same (before text)
        | inr gone ↦ elim gone [
          | inl swept ↦ below-same n (new text) (usable swept.0 (old text)) swept.1
              (below-filter n (λ (r : StoredSeen). can_be_used_again r.exchange swept.0) (old text) (before text))
          | inr none ↦ below-same n (new text) [] none (below-none n)
        ]
      ]
    ]) refl

pub below-under : (n : ℕ) (own : List ℕ) (all : List StoredSeen) (old new : StoredByTarget) → HasUnder own all old new
    → AllBelow n old → AreIdsBelow n all → AllBelow n new
below-under n own all old new has before own_below =
    by-text n own old new (λ other differ. inl (has.others other differ)) before
    (below-same n (new own) all has.own_stored own_below)

pub below-removed_ids : (n : ℕ) (own : List ℕ) (ids : List ResponseId) (old new : StoredByTarget)
    → HasUnder own (without ids (old own)) old new → AllBelow n old → AllBelow n new
below-removed_ids n own ids old new has before =
    below-under n own (without ids (old own)) old new has before (below-without n ids (old own) (before own))

pub below-swept : (n : ℕ) (now : ℤ) (old new : StoredByTarget) → IsSwept now old new → AllBelow n old → AllBelow n new
below-swept n now old new swept before = λ text.
    below-same n (new text) (filter (λ (r : StoredSeen). can_be_used_again r.exchange now) (old text)) (swept text)
    (below-filter n (λ (r : StoredSeen). can_be_used_again r.exchange now) (old text) (before text))

pub below-removed : (n : ℕ) (these : List (List ℕ)) (old new : StoredByTarget) → RemovesThese these old new → AllBelow n old → AllBelow n new
below-removed n these old new removed before = λ text.
    below-same n (new text) (cond (list_any (bytes_eq text) these) [] (old text)) (removed text)
    ((elim (list_any (bytes_eq text) these) as (λ b. AreIdsBelow n (cond b [] (old text))) [
      | true ↦ below-none n
      | false ↦ before text
    ]))

pub below-equal : (n : ℕ) (old new : StoredByTarget) → new ≡ old → AllBelow n old → AllBelow n new
below-equal n old new same before = subst (AllBelow n) (sym same) before

below-newest : (n : ℕ) (left all : List StoredSeen) → AreNewestOf left all → AreIdsBelow n all → AreIdsBelow n left
below-newest n left all newest below =
    below-front n left newest.0 (below-same n (left ++ newest.0) all (sym newest.1) below)

-- a new response takes the next id
pub below-put : (n : ℕ) (own : List ℕ) (seen : StoredSeen) (ids : List ResponseId) (old new : StoredByTarget)
    → seen.id ≡ n → HasFirst seen (without ids (old own)) (new own) → KeepsOthers old new own
    → AllBelow n old → AllBelow (n + 1) new
below-put n own seen ids old new given first others before =
    let rest : AreIdsBelow n first.left =
    below-newest n first.left (without ids (old own)) first.newest (below-without n ids (old own) (before own)) in
    let all : AreIdsBelow (n + 1) (seen ∷ first.left) =
    (omega (arith, given), subst (λ (m : ℕ). AreIdsBelow m first.left) (sym given) rest) in
    by-text (n + 1) own old new others (λ text. below-more n (n + 1) (old text) (omega arith) (before text))
    (below-same (n + 1) (new own) (seen ∷ first.left) first.stored all)

-- what is left of a renewed list
pub below-left : (n id : ℕ) (e : Exchange) (own : List ℕ) (old new : StoredByTarget)
    → AreNewestOf (new own) (renewed id e (old own)) → KeepsOthers old new own → AllBelow n old → AllBelow n new
below-left n id e own old new newest others before =
    by-text n own old new others before
    (below-newest n (new own) (renewed id e (old own)) newest (below-renewed n id e (old own) (before own)))

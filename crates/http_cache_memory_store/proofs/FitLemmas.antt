-- What is stored under each text stays within the limits of one text.
use Rattle.std.proofs.Common.{◌≡◌, ◌≤◌, arith, ℕ, ℤ, suc, Bool, true, false, List, [], ◌∷◌, ◌++◌, All, cond, length, length-append, nat_eq, bytes_eq, not, refl, sym, ap, subst, ◌∙◌, inl, inr}
use Rattle.std.specs.List.{filter, list_any}
use Rattle.std.proofs.lemmas.List.Elements.{All-nil, All-cons, All-head, All-tail}
use Rattle.std.proofs.lemmas.Slice.Eq.{bytes_eq-Decides}
use Rattle.http_cache_policy.specs.Exchange.{Exchange}
use Rattle.http_cache_store.specs.Worth.{can_be_used_again}
use Rattle.http_cache_memory_store.specs.declared.index.limit.Limits.{Limits}
use Rattle.http_cache_store.specs.declared.store.ResponseId.{ResponseId}
use Rattle.http_cache_store.specs.Store.{StoredSeen, StoredByTarget, KeepsOthers, RemovesThese, IsSwept, AreNewestOf, usable, with_exchange, renewed, without}
use Rattle.http_cache_memory_store.specs.Stored.{AreFitting, AreAllFitting}
use Rattle.http_cache_memory_store.specs.Index.{AreFewer, HasUnder, HasFirst}
use Rattle.http_cache_memory_store.proofs.Fronts.{all-front, some}
use Rattle.http_cache_memory_store.proofs.MapLemmas.{true≢false}
use Rattle.http_cache_memory_store.proofs.Sums.{one, ones, filter-less}

module _ (l : Limits) where
  abbrev pub AllFit : StoredByTarget → Type 0
  AllFit = AreAllFitting l

  pub fit-none : AreFitting l []
  fit-none = record { variants = omega arith; bodies = All-nil (λ (r : StoredSeen). length r.mark ≤ l.body) }

  pub fit-same : (xs ys : List StoredSeen) → xs ≡ ys → AreFitting l ys → AreFitting l xs
  fit-same xs ys same fits = subst (AreFitting l) (sym same) fits

  fit-filter : (p : StoredSeen → Bool) (xs : List StoredSeen) → AreFitting l xs → AreFitting l (filter p xs)
  fit-filter p xs fits = record {
    variants = omega (arith, filter-less one p xs, ones xs, ones (filter p xs), fits.variants);
    bodies = some (λ (r : StoredSeen). length r.mark ≤ l.body) p xs fits.bodies;
  }

  pub fit-without : (ids : List ResponseId) (xs : List StoredSeen) → AreFitting l xs → AreFitting l (without ids xs)
  fit-without ids xs fits = fit-filter (λ (r : StoredSeen). not (list_any (λ id. nat_eq r.id id.0) ids)) xs fits

  pub fit-newest : (left all : List StoredSeen) → AreNewestOf left all → AreFitting l all → AreFitting l left
  fit-newest left all newest fits =
      let whole : AreFitting l (left ++ newest.0) = subst (AreFitting l) newest.1 fits in
      record {
        variants = omega (arith, length-append left newest.0, whole.variants);
        bodies = all-front (λ (r : StoredSeen). length r.mark ≤ l.body) left newest.0 whole.bodies;
      }

  renewed-length : (id : ℕ) (e : Exchange) (xs : List StoredSeen) → length (renewed id e xs) ≡ length xs
  renewed-length id e [] = refl
  renewed-length id e (x ∷ xs) =
      (elim (nat_eq x.id id) as (λ b. nat_eq x.id id ≡ b → length (renewed id e (x ∷ xs)) ≡ length (x ∷ xs)) [
        | true ↦ λ q. rw q refl
        | false ↦ λ q. rw q (ap suc (renewed-length id e xs))
      ]) refl

  renewed-bodies : (id : ℕ) (e : Exchange) (xs : List StoredSeen) → All (λ (r : StoredSeen). length r.mark ≤ l.body) xs
      → All (λ (r : StoredSeen). length r.mark ≤ l.body) (renewed id e xs)
  renewed-bodies id e [] h = h
  renewed-bodies id e (x ∷ xs) h =
      let P : StoredSeen → Type 0 = λ r. length r.mark ≤ l.body in
      let first : length x.mark ≤ l.body = All-head (λ (r : StoredSeen). length r.mark ≤ l.body) x xs h in
      let rest = All-tail (λ (r : StoredSeen). length r.mark ≤ l.body) x xs h in
      (elim (nat_eq x.id id) as (λ b. nat_eq x.id id ≡ b → All (λ (r : StoredSeen). length r.mark ≤ l.body) (renewed id e (x ∷ xs))) [
        | true ↦ λ q. rw q (All-cons (λ (r : StoredSeen). length r.mark ≤ l.body) (with_exchange e x) xs first rest)
        | false ↦ λ q. rw q (All-cons (λ (r : StoredSeen). length r.mark ≤ l.body) x (renewed id e xs) first (renewed-bodies id e xs rest))
      ]) refl

  fit-renewed : (id : ℕ) (e : Exchange) (xs : List StoredSeen) → AreFitting l xs → AreFitting l (renewed id e xs)
  fit-renewed id e xs fits = record {
    variants = omega (arith, renewed-length id e xs, fits.variants);
    bodies = renewed-bodies id e xs fits.bodies;
  }

  -- as each other text keeps its responses or has none, only the text's own responses matter
  pub fit-by-text : (own : List ℕ) (old new : StoredByTarget) → KeepsOthers old new own → AllFit old → AreFitting l (new own) → AllFit new
  fit-by-text own old new others before own_fits = λ text.
      (elim (bytes_eq text own) as (λ b. bytes_eq text own ≡ b → AreFitting l (new text)) [
        | true ↦ λ h. fit-same (new text) (new own) (ap new ((bytes_eq-Decides text own).0 h)) own_fits
        | false ↦ λ h. elim (others text (λ is. true≢false (sym ((bytes_eq-Decides text own).1 is) ∙ h))) [
          | inl same ↦ fit-same (new text) (old text) same (before text)
          | inr gone ↦ elim gone [
            | inl swept ↦ fit-same (new text) (usable swept.0 (old text)) swept.1
                (fit-filter (λ (r : StoredSeen). can_be_used_again r.exchange swept.0) (old text) (before text))
            | inr none ↦ fit-same (new text) [] none fit-none
          ]
        ]
      ]) refl

  fit-under : (own : List ℕ) (all : List StoredSeen) (old new : StoredByTarget) → HasUnder own all old new
      → AllFit old → AreFitting l all → AllFit new
  fit-under own all old new has before own_fits =
      fit-by-text own old new (λ other differ. inl (has.others other differ)) before (fit-same (new own) all has.own_stored own_fits)

  pub fit-removed_ids : (own : List ℕ) (ids : List ResponseId) (old new : StoredByTarget)
      → HasUnder own (without ids (old own)) old new → AllFit old → AllFit new
  fit-removed_ids own ids old new has before = fit-under own (without ids (old own)) old new has before (fit-without ids (old own) (before own))

  pub fit-replaced : (id : ℕ) (e : Exchange) (own : List ℕ) (old new : StoredByTarget)
      → HasUnder own (renewed id e (old own)) old new → AllFit old → AllFit new
  fit-replaced id e own old new has before = fit-under own (renewed id e (old own)) old new has before (fit-renewed id e (old own) (before own))

  pub fit-fewer : (old new : StoredByTarget) → AreFewer old new → AllFit old → AllFit new
  fit-fewer old new fewer before = λ text. fit-newest (new text) (old text) (fewer text) (before text)

  pub fit-swept : (now : ℤ) (old new : StoredByTarget) → IsSwept now old new → AllFit old → AllFit new
  fit-swept now old new swept before = λ text.
      fit-same (new text) (filter (λ (r : StoredSeen). can_be_used_again r.exchange now) (old text)) (swept text)
      (fit-filter (λ (r : StoredSeen). can_be_used_again r.exchange now) (old text) (before text))

  pub fit-removed : (these : List (List ℕ)) (old new : StoredByTarget) → RemovesThese these old new → AllFit old → AllFit new
  fit-removed these old new removed before = λ text.
      fit-same (new text) (cond (list_any (bytes_eq text) these) [] (old text)) (removed text)
      ((elim (list_any (bytes_eq text) these) as (λ b. AreFitting l (cond b [] (old text))) [
        | true ↦ fit-none
        | false ↦ before text
      ]))

  pub fit-equal : (old new : StoredByTarget) → new ≡ old → AllFit old → AllFit new
  fit-equal old new same before = subst AllFit (sym same) before

  -- a new response is followed by responses that were stored before
  pub fit-put : (own : List ℕ) (seen : StoredSeen) (ids : List ResponseId) (old new : StoredByTarget)
      → HasFirst seen (without ids (old own)) (new own) → length seen.mark ≤ l.body → length (new own) ≤ l.variants
      → KeepsOthers old new own → AllFit old → AllFit new
  fit-put own seen ids old new first short few others before =
      let rest : AreFitting l first.left = fit-newest first.left (without ids (old own)) first.newest (fit-without ids (old own) (before own)) in
      let all : All (λ (r : StoredSeen). length r.mark ≤ l.body) (seen ∷ first.left) =
      All-cons (λ (r : StoredSeen). length r.mark ≤ l.body) seen first.left short rest.bodies in
      fit-by-text own old new others before record {
        variants = few;
        bodies = subst (λ (xs : List StoredSeen). All (λ (r : StoredSeen). length r.mark ≤ l.body) xs) (sym first.stored) all;
      }

  -- what is left of a renewed list
  pub fit-left : (id : ℕ) (e : Exchange) (own : List ℕ) (old new : StoredByTarget)
      → AreNewestOf (new own) (renewed id e (old own)) → KeepsOthers old new own → AllFit old → AllFit new
  fit-left id e own old new newest others before =
      fit-by-text own old new others before
      (fit-newest (new own) (renewed id e (old own)) newest (fit-renewed id e (old own) (before own)))

-- the limits are the same
pub fit-limits : (l m : Limits) (stored : StoredByTarget) → m ≡ l → AreAllFitting l stored → AreAllFitting m stored
fit-limits l m stored same fits = subst (λ (k : Limits). AreAllFitting k stored) (sym same) fits

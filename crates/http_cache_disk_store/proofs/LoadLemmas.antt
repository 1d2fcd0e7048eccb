-- Ids of responses that are read stay below the next one.
use Rattle.std.proofs.Common.{◌≤◌, ◌≡◌, ℕ, List, [], ◌∷◌, sym, subst, arith}
use Rattle.std.specs.declared.string.String.{String}
use Rattle.http_cache_memory_store.specs.declared.index.list.StoredList.{StoredList}
use Rattle.http_cache_memory_store.specs.declared.index.limit.Limits.{Limits}
use Rattle.http_cache_memory_store.specs.Size.{FitsAlone, FitTogether}
use Rattle.http_cache_memory_store.proofs.IdLemmas.{below-more}
use Rattle.http_cache_disk_store.specs.declared.head.Head.{Head}
use Rattle.http_cache_disk_store.specs.Disk.{HaveIdsBelow, cost_of, stored_in}

module _ {Y : Type 0} where
  pub below_rises : (n m : ℕ) (es : List (String Y × StoredList Head)) → n ≤ m → HaveIdsBelow n es → HaveIdsBelow m es
  below_rises n m es more below = record {
    under = λ text. below-more n m (stored_in es text) more (below.under text);
    once = record { once = below.once.once; below = λ id past. below.once.below id (omega arith) };
  }

  pub same_below : (n m : ℕ) (these those : List (String Y × StoredList Head)) → n ≡ m → these ≡ those → HaveIdsBelow m those → HaveIdsBelow n these
  same_below n m these those number stored below =
      subst (λ (k : ℕ). HaveIdsBelow k these) (sym number) (subst (λ (es : List (String Y × StoredList Head)). HaveIdsBelow m es) (sym stored) below)

-- a response that is within the limits by itself may be put
pub fits_alone : (l : Limits) (h : Head) (cost body : ℕ) → cost ≡ cost_of h → FitsAlone l cost body → FitTogether cost_of l (h ∷ [])
fits_alone l h cost body is fits = record {
  variants = fits.variants;
  responses = fits.responses;
  bytes = omega (arith, is, fits.bytes);
}

-- Nothing is evicted while there is room.
use Rattle.std.proofs.Common.{◌≡◌, ◌≤◌, arith, ℕ, ◌+◌, not, nat_eq, Bool, true, false, List, ◌∷◌, length, map, bytes_eq, refl, sym, ap, ◌∙◌}
use Rattle.std.specs.List.{filter, list_any, sum_by}
use Rattle.std.proofs.lemmas.List.Sums.{sum_by-cons}
use Rattle.std.specs.declared.string.String.{String}
use Rattle.std.proofs.lemmas.Slice.Eq.{bytes_eq-Decides}
use Rattle.lru.specs.LruCache.{LruCache}
use Rattle.http_cache_memory_store.specs.declared.index.list.StoredList.{StoredList}
use Rattle.http_cache_memory_store.specs.declared.index.limit.Limits.{Limits}
use Rattle.http_cache_memory_store.specs.declared.index.size.Amount.{Amount}
use Rattle.http_cache_store.specs.Store.{StoredSeen, without}
use Rattle.http_cache_store.specs.declared.store.ResponseId.{ResponseId}
use Rattle.http_cache_memory_store.specs.Size.{replaced, IsAllowed, IsAmountOf, IsAtMost, FitTogether}
use Rattle.http_cache_memory_store.specs.Index.{all_entries, stored_under, IsFirstShortened, IsHeld}
use Rattle.http_cache_memory_store.proofs.BoundsLemmas.{at-first, shortened}
use Rattle.http_cache_memory_store.proofs.ListLemmas.{as_long}
use Rattle.http_cache_memory_store.proofs.MapLemmas.{true≢false}
use Rattle.http_cache_memory_store.proofs.Sums.{one, ones, filter-less}
use Rattle.http_cache_memory_store.proofs.Totals.{total-cons}

module _ {Y E : Type 0} (seen : E → StoredSeen) (cost : E → ℕ) (l : Limits) (own : List ℕ) (stay : ℕ)
    (es short : List (String Y × StoredList E)) (s : IsFirstShortened cost l own stay es short) where
  -- if all that is stored is within the limits, so are the responses of the first text
  first-fits : (held : Amount) (c : LruCache (String Y) (StoredList E)) → c.entries ≡ es → IsHeld cost held c → IsAllowed l held
      → length (stored_under seen es own) ≤ l.variants → FitTogether cost l s.was.entries.items
  first-fits held c is counted allowed few =
      let under : length (stored_under seen es own) ≡ length s.was.entries.items =
      ap length (at-first seen own es s.key s.was s.rest s.old_first s.is) ∙ as_long seen s.was.entries.items in
      let parts : (g : E → ℕ) → sum_by g (all_entries c.entries) ≡ sum_by g s.was.entries.items + sum_by g (all_entries s.rest) =
      λ g. ap (λ (xs : List (String Y × StoredList E)). sum_by g (all_entries xs)) (is ∙ s.old_first) ∙ total-cons g (s.key, s.was) s.rest in
      record {
        variants = omega (arith, few, under);
        responses = omega (arith, parts one, ones (all_entries c.entries), ones s.was.entries.items, counted.amount.responses, allowed.responses);
        bytes = omega (arith, parts cost, counted.amount.bytes, allowed.bytes);
      }

  -- if the first text keeps its responses, every text does
  all-kept : s.now_kept.entries.items ≡ s.was.entries.items → stored_under seen short ≡ stored_under seen es
  all-kept same =
      let new = stored_under seen short in
      let old = stored_under seen es in
      let left = shortened seen cost l own stay es short s in
      let own_kept : new own ≡ old own =
      at-first seen own short s.key s.now_kept s.rest s.new_first s.is
      ∙ ap (map seen) same
      ∙ sym (at-first seen own es s.key s.was s.rest s.old_first s.is) in
      let at : (text : List ℕ) → new text ≡ old text =
      λ text. (elim (bytes_eq text own) as (λ b. bytes_eq text own ≡ b → new text ≡ old text) [
        | true ↦ λ h. let is : text ≡ own = (bytes_eq-Decides text own).0 h in ap new is ∙ own_kept ∙ ap old (sym is)
        | false ↦ λ h. left.others text (λ is. true≢false (sym ((bytes_eq-Decides text own).1 is) ∙ h))
      ]) refl in
      λ i text. at text i

  pub shortened-whole : (held : Amount) (c : LruCache (String Y) (StoredList E)) → c.entries ≡ es → IsHeld cost held c → IsAllowed l held
      → length (stored_under seen es own) ≤ l.variants → stored_under seen short ≡ stored_under seen es
  shortened-whole held c is counted allowed few = all-kept (s.whole (first-fits held c is counted allowed few))

module _ {E : Type 0} (cost : E → ℕ) where
  -- a list that gets one more response, and loses some, grows by that one at most
  pub grows : (held before after : Amount) (entry : E) (p : E → Bool) (xs ys : List E) → IsAtMost before held
      → IsAmountOf cost before xs → IsAmountOf cost after ys → ys ≡ entry ∷ filter p xs
      → ((replaced held before after).responses ≤ held.responses + 1)
      × ((replaced held before after).bytes ≤ held.bytes + cost entry)
  grows held before after entry p xs ys part was is same =
      let few : sum_by one ys ≤ sum_by one xs + 1 =
      omega (arith, ap (sum_by one) same, sum_by-cons one entry (filter p xs), filter-less one p xs) in
      let less : sum_by cost ys ≤ sum_by cost xs + cost entry =
      omega (arith, ap (sum_by cost) same, sum_by-cons cost entry (filter p xs), filter-less cost p xs) in
      (omega (arith, part.responses, was.responses, is.responses, ones xs, ones ys, few), omega (arith, part.bytes, was.bytes, is.bytes, less))

pub left-shorter : (ids : List ResponseId) (all : List StoredSeen) → length (without ids all) ≤ length all
left-shorter ids all =
    omega (arith, ones all, ones (without ids all), filter-less one (λ r. not (list_any (λ (id : ResponseId). nat_eq r.id id.0) ids)) all)

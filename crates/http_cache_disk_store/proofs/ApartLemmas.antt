-- An id is stored or removed, and once at most, after each change.
use Rattle.std.proofs.Common.{◌≡◌, ◌≤◌, arith, ℕ, ◌+◌, Bool, true, false, List, [], ◌∷◌, cond, nat_eq, refl, sym, ap, subst}
use Rattle.std.specs.List.{sum_by}
use Rattle.std.specs.declared.string.String.{String}
use Rattle.std.proofs.lemmas.List.Sums.{sum_by-append, sum_by-cons}
use Rattle.http_cache_store.specs.declared.store.ResponseId.{ResponseId}
use Rattle.http_cache_memory_store.specs.declared.index.list.StoredList.{StoredList}
use Rattle.http_cache_memory_store.specs.Index.{all_entries}
use Rattle.http_cache_memory_store.specs.Removal.{AreListed, AreOnceBelow, HasSameIds, TellsRemoved, stored_as, told_as}
use Rattle.http_cache_memory_store.proofs.OnceLemmas.{listed-all, listed-gone, put-all, put-gone, same-id}
use Rattle.http_cache_memory_store.proofs.ToldLemmas.{has, is_one}
use Rattle.http_cache_disk_store.specs.declared.head.Head.{Head}
use Rattle.http_cache_disk_store.specs.Disk.{AreApart, HaveIdsBelow, UnlinksExactly, seen_of}

-- the same account, by equal lists
pub tells-from : (a b : List Head) (s t u : List ResponseId) → s ≡ t → TellsRemoved seen_of a b s u → TellsRemoved seen_of a b t u
tells-from a b s t u same f = subst (λ (l : List ResponseId). TellsRemoved seen_of a b l u) same f

pub tells-to : (a b : List Head) (t u v : List ResponseId) → u ≡ v → TellsRemoved seen_of a b t u → TellsRemoved seen_of a b t v
tells-to a b t u v same f = subst (λ (l : List ResponseId). TellsRemoved seen_of a b t l) same f

pub apart-begun : {Y : Type 0} (n : ℕ) (es : List (String Y × StoredList Head)) (told : List ResponseId) → told ≡ [] → HaveIdsBelow n es
    → AreApart n (all_entries es) told
apart-begun n es told none h = record {
  once = λ id. omega (arith, h.once.once id, ap (sum_by (is_one id)) none);
  below = λ id past. omega (arith, h.once.below id past, ap (sum_by (is_one id)) none);
}

pub apart-tells : (n : ℕ) (a b : List Head) (t u : List ResponseId) → TellsRemoved seen_of a b t u → AreApart n a t → AreApart n b u
apart-tells n a b t u f h = record {
  once = λ id. omega (arith, h.once id, f.exact id, ap (sum_by (is_one id)) f.added, sum_by-append (is_one id) t f.told);
  below = λ id past. omega (arith, h.below id past, f.exact id, ap (sum_by (is_one id)) f.added, sum_by-append (is_one id) t f.told);
}

pub apart-settled : (n : ℕ) (a b : List Head) (t u v : List ResponseId) → TellsRemoved seen_of a b t u → v ≡ u → AreApart n a t → AreApart n b v
apart-settled n a b t u v f same h = apart-tells n a b t v (tells-to a b t u v (sym same) f) h

pub apart-same : (n : ℕ) (a b : List Head) (t u : List ResponseId) → HasSameIds seen_of a b → u ≡ t → AreApart n a t → AreApart n b u
apart-same n a b t u same told h = record {
  once = λ id. omega (arith, h.once id, same id, ap (sum_by (is_one id)) told);
  below = λ id past. omega (arith, h.below id past, same id, ap (sum_by (is_one id)) told);
}

once-of : (n : ℕ) (a : List Head) (t : List ResponseId) → AreApart n a t → AreOnceBelow seen_of n a
once-of n a t h = record {
  once = λ id. omega (arith, h.once id);
  below = λ id past. omega (arith, h.below id past);
}

-- a stored response has the next id, of which nothing was stored or removed
pub apart-put : (n : ℕ) (x : Head) (a b : List Head) (t u : List ResponseId) → x.id.0 ≡ n → TellsRemoved seen_of (x ∷ a) b t u
    → AreApart n a t → AreApart (n + 1) b u
apart-put n x a b t u given f h = apart-tells (n + 1) (x ∷ a) b t u f record {
  once = λ id. (elim (nat_eq x.id.0 id) as (λ b. nat_eq x.id.0 id ≡ b → stored_as seen_of id (x ∷ a) + told_as id t ≤ 1) [
    | true ↦ λ q. let same = same-id x.id.0 id q in let own : has seen_of id x ≡ 1 = ap (λ (b : Bool). cond b 1 0) q in
        let rest : n ≤ id = omega arith in
        omega (arith, own, h.below id rest, sum_by-cons (has seen_of id) x a)
    | false ↦ λ q. let own : has seen_of id x ≡ 0 = ap (λ (b : Bool). cond b 1 0) q in
        omega (arith, own, h.once id, sum_by-cons (has seen_of id) x a)
  ]) refl;
  below = λ id past. (elim (nat_eq x.id.0 id) as (λ b. nat_eq x.id.0 id ≡ b → stored_as seen_of id (x ∷ a) + told_as id t ≡ 0) [
    | true ↦ λ q. absurd (let same = same-id x.id.0 id q in let no : ⊥ = omega arith in no)
    | false ↦ λ q. let own : has seen_of id x ≡ 0 = ap (λ (b : Bool). cond b 1 0) q in
        let rest : n ≤ id = omega arith in
        omega (arith, own, h.below id rest, sum_by-cons (has seen_of id) x a)
  ]) refl;
}

whole : (l : List ResponseId) → AreListed true l l
whole l = record { only = λ id. omega arith; all = λ _ id. refl }

pub unlinks-exactly : (n : ℕ) (a b : List Head) (t u : List ResponseId) → TellsRemoved seen_of a b t u → AreApart n a t → UnlinksExactly a b t u
unlinks-exactly n a b t u f h =
    let anew : TellsRemoved seen_of a b [] f.told = record { told = f.told; added = refl; exact = f.exact } in
    record {
      unlinked = f.told;
      added = f.added;
      gone = listed-gone seen_of n a b f.told [] f.told true refl (whole f.told) anew (once-of n a t h);
      all = listed-all seen_of a b f.told [] f.told true refl (whole f.told) anew refl;
    }

-- the same if a new response was stored, and stays
pub put-unlinks : (n : ℕ) (x : Head) (a b : List Head) (t u : List ResponseId) → x.id.0 ≡ n → 1 ≤ stored_as seen_of x.id.0 b
    → TellsRemoved seen_of (x ∷ a) b t u → AreApart n a t → UnlinksExactly a b t u
put-unlinks n x a b t u given stays f h =
    let anew : TellsRemoved seen_of (x ∷ a) b [] f.told = record { told = f.told; added = refl; exact = f.exact } in
    record {
      unlinked = f.told;
      added = f.added;
      gone = put-gone seen_of n x a b f.told [] f.told true refl (whole f.told) anew (once-of n a t h) given stays;
      all = put-all seen_of x a b f.told [] f.told true refl (whole f.told) anew refl;
    }

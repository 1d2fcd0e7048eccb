-- Lists that correspond index by index.
use Rattle.std.proofs.Common.{◌≡◌, ℕ, zero, suc, ◌+◌, ◌<◌, List, [], ◌∷◌, ◌++◌, map, length}
use Rattle.std.proofs.Common.{Some, take, drop, get_or, refl, sym, ap, ◌∙◌, subst, arith}
use Rattle.std.specs.List.{AllZip}
use Rattle.std.proofs.lemmas.List.{map_more}
use Rattle.serde_json.specs.Data.{Data}
use Rattle.serde_json.specs.View.{view, items_view, items_of}
use Rattle.serde_json.specs.Find.{as_array}
use Rattle.serde_json.specs.declared.value.Value.{Value}
use Rattle.http_cache_json.specs.Lists.{values_of, IsListOf}
use Rattle.http_cache_json.proofs.SomeLemmas.{some_and, of_some, some_same}

pub values_of-items_of : (ds : List Data) → values_of (items_of ds) ≡ ds
values_of-items_of [] = refl
values_of-items_of (d ∷ ds) = ap (λ l. d ∷ l) (values_of-items_of ds)

pub zip_push : {A B : Type 0} (R : A → B → Type 0) (xs : List A) (ys : List B) (x : A) (y : B)
    → AllZip R xs ys → R x y → AllZip R (xs ++ x ∷ []) (ys ++ y ∷ [])
zip_push R [] [] x y h r = (r, tt)
zip_push R [] (b ∷ ys) x y h r = absurd h
zip_push R (a ∷ xs) [] x y h r = absurd h
zip_push R (a ∷ xs) (b ∷ ys) x y h r = (h.0, zip_push R xs ys x y h.1 r)

-- the split of a list that corresponds to the split of another
pub record Cut {A B : Type 0} (R : A → B
    → Type 0) (xs : List A) (x : A) (zs : List A) (ys : List B) : Type 0 where
  pub front : List B
  pub here : B
  pub back : List B
  pub whole : ys ≡ front ++ here ∷ back
  pub before : AllZip R xs front
  pub at : R x here
  pub after : AllZip R zs back

pub zip_cut : {A B : Type 0} (R : A → B → Type 0) (xs : List A) (x : A) (zs : List A) (ys : List B)
    → AllZip R (xs ++ x ∷ zs) ys → Cut R xs x zs ys
zip_cut R [] x zs [] h = absurd h
zip_cut R [] x zs (y ∷ ys) h = record {
  front = [];
  here = y;
  back = ys;
  whole = refl;
  before = tt;
  at =
      h.0;
  after = h.1;
}
zip_cut R (a ∷ xs) x zs [] h = absurd h
zip_cut R (a ∷ xs) x zs (y ∷ ys) h =
    let c = zip_cut R xs x zs ys h.1 in
    record {
      front = y ∷ c.front;
      here = c.here;
      back = c.back;
      whole = ap (λ l. y ∷ l) c.whole;
      before =
          (h.0, c.before);
      at = c.at;
      after = c.after;
    }

pub zip_same : {A B : Type 0} (R : A → B → Type 0) → ((x : A) (y z : B) → R x y → R x z → y ≡ z)
    → (xs : List A) (ys zs : List B) → AllZip R xs ys → AllZip R xs zs → ys ≡ zs
zip_same R one [] [] [] h k = refl
zip_same R one [] [] (z ∷ zs) h k = absurd k
zip_same R one [] (y ∷ ys) zs h k = absurd h
zip_same R one (x ∷ xs) [] zs h k = absurd h
zip_same R one (x ∷ xs) (y ∷ ys) [] h k = absurd k
zip_same R one (x ∷ xs) (y ∷ ys) (z ∷ zs) h k =
    ap (λ w. w ∷ ys) (one x y z h.0 k.0) ∙ ap (λ l. z ∷ l) (zip_same R one xs ys zs h.1 k.1)

pub map_around : {A B : Type 0} (f : A → B) (vs : List A) (i : ℕ) (v : A) → i < length vs → v ≡ get_or vs i v
    → map f vs ≡ map f (take i vs) ++ f v ∷ map f (drop (suc i) vs)
map_around f [] i v h e = absurd (omega arith)
map_around f (w ∷ vs) zero v h e = ap (λ u. f u ∷ map f vs) (sym e)
map_around f (w ∷ vs) (suc i) v h e = ap (λ l. f w ∷ l) (map_around f vs i v (omega arith) e)

pub up_to_next : {A B : Type 0} (f : A → B) (vs : List A) (i : ℕ) (v : A) → i < length vs → v ≡ get_or vs i v
    → map f (take (i + 1) vs) ≡ map f (take i vs) ++ f v ∷ []
up_to_next f vs i v h e = map_more f vs i v h ∙ ap (λ u. map f (take i vs) ++ f u ∷ []) (sym e)

pub list_of_zip : {X : Type 0} (R : Data → X → Type 0) (d : Data) (vs : List Value) (xs : List X)
    → Some (items_view vs) ≡ as_array d → AllZip R (map view vs) xs → IsListOf R d xs
list_of_zip R d vs xs e h =
    some_and (as_array d) (items_view vs) (λ ds. AllZip R (values_of ds) xs) e (subst
    (λ (ds : List Data). AllZip R ds xs) (sym (values_of-items_of (map view vs))) h)

pub zip_of_list : {X : Type 0} (R : Data → X → Type 0) (d : Data) (vs : List Value) (xs : List X)
    → Some (items_view vs) ≡ as_array d → IsListOf R d xs → AllZip R (map view vs) xs
zip_of_list R d vs xs e h =
    subst (λ (ds : List Data). AllZip R ds xs) (values_of-items_of (map view vs)) (of_some (as_array d)
    (items_view vs) (λ ds. AllZip R (values_of ds) xs) e h)

pub IsListOf-unique : {X : Type 0} (Stands : Data → X → Type 0)
    → ((d : Data) (x y : X) → Stands d x → Stands d y → x ≡ y)
    → (d : Data) (xs ys : List X) → IsListOf Stands d xs → IsListOf Stands d ys → xs ≡ ys
IsListOf-unique Stands one d xs ys h k =
    some_same (λ ds zs. AllZip Stands (values_of ds) zs) (λ ds. zip_same Stands one (values_of ds))
    (as_array d) xs ys h k

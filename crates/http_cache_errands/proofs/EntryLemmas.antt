-- An entry of the map is what `get` returns at its key.
use Rattle.std.proofs.Common.{◌≡◌, ◌++◌, ◌∷◌, ◌∙◌, [], ap, refl, length, ℕ, List, Some}
use Rattle.std.specs.List.{slice_get}
use Rattle.std.specs.BTreeMap.{IsOrdered, get}
use Rattle.std.specs.Ordering.{nat_cmp}
use Rattle.std.proofs.lemmas.Cmp.{nat_cmp_total}
use Rattle.std.proofs.lemmas.Map.Entries.{btree_map_get_place}
use Rattle.http_cache_errands.specs.UnderWay.{ByToken}
use Rattle.http_cache_errands.specs.declared.errands.UnderWay.{UnderWay}

module _ {X : Type 0} where
  place : (done rest : List X) (x : X) → slice_get (done ++ x ∷ rest) (length done) ≡ Some x
  place [] rest x = refl
  place (d ∷ done) rest x = place done rest x

pub entry : (m : ByToken) → IsOrdered nat_cmp m → (done left rest : List (ℕ × UnderWay)) (token : ℕ) (one : UnderWay)
    → m.entries ≡ done ++ left → left ≡ (token, one) ∷ rest → get nat_cmp m token ≡ Some one
entry m ordered done left rest token one whole first =
    btree_map_get_place nat_cmp_total m (length done) token one ordered
    (ap (λ es. slice_get es (length done)) whole ∙ ap (λ es. slice_get (done ++ es) (length done)) first ∙ place done rest (token, one))

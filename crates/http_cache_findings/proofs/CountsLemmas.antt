-- Counts after more additions.
use Rattle.std.proofs.Common.{arith, ◌≡◌, ◌∙◌, sym, ap, refl, ℕ, ◌+◌, ◌-◌, ◌^◌, min, zero, suc, map, take, slice_get, Bool, true, false, cond, List, [], ◌∷◌, ◌++◌}
use Rattle.std.proofs.Common.{Option, Some, unwrap_or, bytes_eq}
use Rattle.std.proofs.Common.{add-one, subst}
use Rattle.std.specs.Prelude.{sum_by}
use Rattle.std.specs.List.{flat_map, enumerate_from}
use Rattle.std.specs.BTreeMap.{get_by_text}
use Rattle.std.proofs.lemmas.List.{append-nil, append_assoc, map-id}
use Rattle.std.proofs.lemmas.List.Sums.{sum_by_push}
use Rattle.std.proofs.lemmas.Slice.Eq.{bytes_eq-Decides}
use Rattle.http_cache_findings.specs.declared.counts.Counts.{Counts}
use Rattle.http_cache_findings.specs.Counts.{Addition, CountsAlso, HoldsCounts, total_of, total_in, amount_under}

pub also_none : (c : Counts) → CountsAlso [] c c
unfolding CountsAlso
also_none c = λ before holds. λ label. holds label ∙ ap (λ adds. total_of adds label) (sym (append-nil before))

pub also_then : (xs ys : List Addition) (a b c : Counts) → CountsAlso xs a b → CountsAlso ys b c
    → CountsAlso (xs ++ ys) a c
unfolding CountsAlso
also_then xs ys a b c one two = λ before holds. λ label.
    two (before ++ xs) (one before holds) label ∙ ap (λ adds. total_of adds label) (append_assoc before xs ys)

stopped : (old s n most : ℕ) → old ≡ min s most → min (old + n) most ≡ min (s + n) most
stopped old s n most is = omega arith

same-sum : (s most : ℕ) → min s most ≡ min (s + 0) most
same-sum s most = omega arith

at-label : (b : Bool) (old : Option ℕ) (n count s most : ℕ) → unwrap_or old 0 ≡ min s most
    → (b ≡ true → count ≡ min (unwrap_or old 0 + n) most)
    → unwrap_or (cond b (Some count) old) 0 ≡ min (s + cond b n 0) most
at-label true old n count s most is sum = sum refl ∙ stopped (unwrap_or old 0) s n most is
at-label false old n count s most is sum = is ∙ same-sum s most

pub also_one : (label : List ℕ) (n count : ℕ) (a b : Counts) → count ≡ min (total_in a label + n) (2 ^ 64 - 1)
    → ((key : List ℕ) → get_by_text b.by_label key ≡ cond (bytes_eq label key) (Some count) (get_by_text a.by_label key))
    → CountsAlso ((label, n) ∷ []) a b
unfolding CountsAlso
also_one label n count a b sum put = λ before holds. λ key.
    ap (λ (o : Option ℕ). unwrap_or o 0) (put key)
    ∙ (at-label (bytes_eq label key) (get_by_text a.by_label key) n count (sum_by (amount_under key) before) (2 ^ 64 - 1)
    (holds key)
    (λ same. sum ∙ ap (λ (l : List ℕ). min (total_in a l + n) (2 ^ 64 - 1)) ((bytes_eq-Decides label key).0 same))
    ∙ ap (λ (t : ℕ). min t (2 ^ 64 - 1)) (sym (sum_by_push (amount_under key) before (label, n))))

all-next : {X Y Z : Type 0} (seen : X → Y) (f : Y → List Z) (xs : List X) (k : ℕ) (x : X) → slice_get xs k ≡ Some x
    → flat_map f (map seen (take (suc k) xs)) ≡ flat_map f (map seen (take k xs)) ++ f (seen x)
all-next seen f [] k x at = cc
all-next seen f (y ∷ ys) zero x at = let same : y ≡ x = cc in rw same (append-nil (f (seen x)))
all-next seen f (y ∷ ys) (suc k) x at =
    ap (λ l. f (seen y) ++ l) (all-next seen f ys k x at) ∙ sym (append_assoc (f (seen y)) _ _)

-- counting one more of a list
pub also_next : {X Y : Type 0} (seen : X → Y) (f : Y → List Addition) (xs : List X) (k : ℕ) (x : X) (a b c : Counts)
    → slice_get xs k ≡ Some x → CountsAlso (flat_map f (map seen (take k xs))) a b → CountsAlso (f (seen x)) b c
    → CountsAlso (flat_map f (map seen (take (k + 1) xs))) a c
also_next seen f xs k x a b c at so_far more =
    let next = ap (λ (n : ℕ). flat_map f (map seen (take n xs))) (add-one k) ∙ all-next seen f xs k x at in
    subst (λ adds. CountsAlso adds a c) (sym next) (also_then _ _ a b c so_far more)

-- writing one more of a list
pub written_next : {X Y Z : Type 0} (seen : X → Y) (f : Y → List Z) (xs : List X) (k : ℕ) (x : X) (start now new : List Z)
    → slice_get xs k ≡ Some x → now ≡ start ++ flat_map f (map seen (take k xs)) → new ≡ now ++ f (seen x)
    → new ≡ start ++ flat_map f (map seen (take (k + 1) xs))
written_next seen f xs k x start now new at so_far more =
    let next = ap (λ (n : ℕ). flat_map f (map seen (take n xs))) (add-one k) ∙ all-next seen f xs k x at in
    more ∙ (ap (λ l. l ++ f (seen x)) so_far
    ∙ (append_assoc start (flat_map f (map seen (take k xs))) (f (seen x)) ∙ ap (λ l. start ++ l) (sym next)))

-- the counts of a list hold after one more of it is counted
pub holds_next : {X Y : Type 0} (seen : X → Y) (f : Y → List Addition) (xs : List X) (k : ℕ) (x : X) (a b : Counts)
    → slice_get xs k ≡ Some x → HoldsCounts (flat_map f (map seen (take k xs))) a → CountsAlso (f (seen x)) a b
    → HoldsCounts (flat_map f (map seen (take (k + 1) xs))) b
unfolding CountsAlso
holds_next seen f xs k x a b at so_far more =
    let next = ap (λ (n : ℕ). flat_map f (map seen (take n xs))) (add-one k) ∙ all-next seen f xs k x at in
    subst (λ adds. HoldsCounts adds b) (sym next) (more (flat_map f (map seen (take k xs))) so_far)

enumerated : {X : Type 0} (n k : ℕ) (xs : List X) (x : X) → slice_get xs k ≡ Some x
    → slice_get (enumerate_from n xs) k ≡ Some (n + k, x)
enumerated n k [] x at = cc
enumerated n zero (y ∷ ys) x at =
    let same : y ≡ x = cc in rw same (ap (λ (m : ℕ). Some (m, x)) (omega arith))
enumerated n (suc k) (y ∷ ys) x at = enumerated (n + 1) k ys x at ∙ ap (λ (m : ℕ). Some (m, x)) (omega arith)

-- likewise for a list with its indices
pub holds_at : {X : Type 0} (f : ℕ × X → List Addition) (xs : List X) (k : ℕ) (x : X) (a b : Counts)
    → slice_get xs k ≡ Some x → HoldsCounts (flat_map f (take k (enumerate_from 0 xs))) a → CountsAlso (f (k, x)) a b
    → HoldsCounts (flat_map f (take (k + 1) (enumerate_from 0 xs))) b
holds_at f xs k x a b at so_far more =
    let all = enumerate_from 0 xs in
    let same = λ (n : ℕ). map-id (take n all) in
    subst (λ l. HoldsCounts (flat_map f l) b) (same (k + 1))
    (holds_next (λ p. p) f all k (k, x) a b
    (enumerated 0 k xs x at ∙ ap (λ (m : ℕ). Some (m, x)) (omega arith))
    (subst (λ l. HoldsCounts (flat_map f l) a) (sym (same k)) so_far) more)

pub made_at : {X Y : Type 0} (f : ℕ × X → List Y) (xs : List X) (k : ℕ) (x : X) → slice_get xs k ≡ Some x
    → flat_map f (take (k + 1) (enumerate_from 0 xs)) ≡ flat_map f (take k (enumerate_from 0 xs)) ++ f (k, x)
made_at f xs k x at =
    let all = enumerate_from 0 xs in
    let here = enumerated 0 k xs x at ∙ ap (λ (m : ℕ). Some (m, x)) (omega arith) in
    ap (λ (n : ℕ). flat_map f (take n all)) (add-one k)
    ∙ (ap (λ l. flat_map f l) (sym (map-id (take (suc k) all)))
    ∙ (all-next (λ p. p) f all k (k, x) here ∙ ap (λ l. flat_map f l ++ f (k, x)) (map-id (take k all))))

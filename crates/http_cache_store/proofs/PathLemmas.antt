-- The parts of a reference at its first or last separator, and the segments that are left of a path.
use Rattle.std.proofs.Common.{◌≡◌, ◌⊎◌, ℕ, ◌<◌, ◌≤◌, ◌-◌, ◌+◌, Bool, true, false, cond, not, ◌||◌, List, [], ◌∷◌, ◌++◌, length, take, drop, refl, ap, sym, subst, ◌∙◌, arith, bytes_eq, Option, Some, None, lit<}
use Rattle.std.specs.Prelude.{codes, nat_lt, ◌==◌, slice_index_or}
use Rattle.std.specs.List.{before_last, fold, last_or, list_any, position_or_len, suffix_len}
use Rattle.std.specs.Option.{option_map_or}
use Rattle.std.specs.Str.{NoCharPasses}
use Rattle.std.specs.Str.Pattern.{RFindsChar}
use Rattle.std.proofs.lemmas.Bool.Decides.{nat_tests}
use Rattle.std.proofs.lemmas.Grind.{common_steps}
use Rattle.std.proofs.lemmas.List.Sums.{suffix_len_is}
use Rattle.std.proofs.lemmas.Str.{len_utf8_ascii}
use Rattle.std.proofs.lemmas.Str.Pattern.{NoCharPasses-char}
use Rattle.http_cache_store.specs.Reference.{after_root, empty_end, is_dot_segment, is_slash, left_of, left_with}

pub after_root-none : (path : List ℕ) → ((rest : List ℕ) → path ≡ 47 ∷ rest → ⊥) → path ≡ after_root path
after_root-none [] other = refl
after_root-none (b ∷ bs) other =
    (elim (b == 47) as (λ t. (b == 47) ≡ t → (b ∷ bs) ≡ cond t bs (b ∷ bs)) [
      | true ↦ λ e. let same : b ≡ 47 = grind (arith, nat_tests) in absurd (other bs (ap (λ x. x ∷ bs) same))
      | false ↦ λ e. refl
    ]) refl

any-some_by : {X : Type 0} (p : X → Bool) (x : X) (xs : List X) (b : Bool)
    → (position_or_len p xs < length xs → list_any p xs ≡ true)
    → cond (not b) (1 + position_or_len p xs) 0 < length (x ∷ xs) → (b || list_any p xs) ≡ true
any-some_by p x xs true ih h = refl
any-some_by p x xs false ih h = ih (omega (arith, h))

pub any-some : {X : Type 0} (p : X → Bool) (xs : List X) → position_or_len p xs < length xs → list_any p xs ≡ true
any-some p [] h = absurd (omega arith)
any-some p (x ∷ xs) h = any-some_by p x xs (p x) (any-some p xs) h

-- ---- the last slash

is_other : ℕ → Bool
is_other b = not (b == 47)

pub before_last-at : (s : List ℕ) (i j : ℕ) → j ≤ length s → RFindsChar 47 s (Some (i, j)) → before_last is_slash s ≡ take i s
before_last-at s i j inside h =
    let ends : j ≡ i + 1 = omega (arith, h.1.ends, len_utf8_ascii 47 (lit< tt)) in
    let at : slice_index_or s i 0 ≡ 47 = h.1.byte (lit< tt) in
    let suffix : suffix_len (λ b. not (b == 47)) s ≡ length s - (i + 1) =
    suffix_len_is (λ b. not (b == 47)) s (i + 1) 0 (omega (arith, ends, inside))
    (λ k from below.
    let other = NoCharPasses-char 47 (drop j s) (k - j) h.0 (lit< tt) (grind (arith, common_steps)) in
    let same : slice_index_or (drop j s) (k - j) 0 ≡ slice_index_or s k 0 = grind (arith, common_steps) in
    grind (arith, nat_tests))
    (λ _. grind (arith, nat_tests)) in
    ap (λ (n : ℕ). take n s) (omega (arith, suffix, ends, inside))

pub before_last-none : (s : List ℕ) → NoCharPasses (λ d. d == 47) s → before_last is_slash s ≡ []
before_last-none s lacks =
    let suffix : suffix_len (λ b. not (b == 47)) s ≡ length s - 0 =
    suffix_len_is (λ b. not (b == 47)) s 0 0 (omega arith)
    (λ k from below. let other = NoCharPasses-char 47 s k lacks (lit< tt) below in grind (arith, nat_tests))
    (λ h. absurd (omega (arith, h))) in
    let nothing : length s - suffix_len (λ b. not (b == 47)) s - 1 ≡ 0 = omega (arith, suffix) in
    ap (λ (n : ℕ). take n s) nothing

-- ---- segments

-- one more segment after those that are kept
abbrev pub kept_after : List (List ℕ) → List ℕ → List (List ℕ)
kept_after kept segment =
    cond (bytes_eq segment (codes "..")) (take (length kept - 1) kept)
    (cond (bytes_eq segment (codes ".")) kept (kept ++ (segment ∷ [])))

-- of those before a list its dot segments remove some, and what is left of the list follows
abbrev joined : List (List ℕ) → ℕ × List (List ℕ) → List (List ℕ)
joined kept left = take (length kept - left.0) kept ++ left.1

fewer : (kept : List (List ℕ)) (n : ℕ) → take (length (take (length kept - 1) kept) - n) (take (length kept - 1) kept) ≡ take (length kept - (n + 1)) kept
fewer kept n = grind (arith, common_steps)

onto : (kept : List (List ℕ)) (segment : List ℕ) (l : ℕ × List (List ℕ)) (b : Bool) → nat_lt 0 l.0 ≡ b
    → joined (kept ++ (segment ∷ [])) l ≡ joined kept (cond b (l.0 - 1, l.1) (0, segment ∷ l.1))
onto kept segment l true e =
    let some : 0 < l.0 = grind (arith, nat_tests) in
    ap (λ (t : List (List ℕ)). t ++ l.1) (grind (arith, common_steps))
onto kept segment l false e =
    let none : l.0 ≡ 0 = grind (arith, nat_tests) in
    grind (arith, common_steps)

kept_after-joined_by : (kept : List (List ℕ)) (segment : List ℕ) (l : ℕ × List (List ℕ)) (parent own : Bool)
    → joined (cond parent (take (length kept - 1) kept) (cond own kept (kept ++ (segment ∷ [])))) l
    ≡ joined kept (cond parent (l.0 + 1, l.1) (cond own l (cond (nat_lt 0 l.0) (l.0 - 1, l.1) (0, segment ∷ l.1))))
kept_after-joined_by kept segment l true own = ap (λ (t : List (List ℕ)). t ++ l.1) (fewer kept l.0)
kept_after-joined_by kept segment l false true = refl
kept_after-joined_by kept segment l false false = onto kept segment l (nat_lt 0 l.0) refl

pub fold-joined : (segments kept : List (List ℕ)) → fold kept_after kept segments ≡ joined kept (left_of segments)
fold-joined [] kept = grind (arith, common_steps)
fold-joined (segment ∷ segments) kept =
    fold-joined segments (kept_after kept segment)
    ∙ kept_after-joined_by kept segment (left_of segments) (bytes_eq segment (codes "..")) (bytes_eq segment (codes "."))

pub fold-left : (segments : List (List ℕ)) → fold kept_after [] segments ≡ (left_of segments).1
fold-left segments = fold-joined segments [] ∙ grind (arith, common_steps)

-- whether the last one is a dot segment, as a loop sees it
pub ends_in_dots : (segments : List (List ℕ)) (b : Bool) (before : Option (List ℕ)) → b ≡ option_map_or is_dot_segment before false
    → fold (λ (o : Bool) (s : List ℕ). is_dot_segment s) b segments ≡ option_map_or is_dot_segment (last_or before segments) false
ends_in_dots [] b before e = e
ends_in_dots (segment ∷ segments) b before e = ends_in_dots segments (is_dot_segment segment) (Some segment) refl

pub empty_end-by : (segments : List (List ℕ)) (b : Bool)
    → b ≡ fold (λ (o : Bool) (s : List ℕ). is_dot_segment s) false segments → cond b ([] ∷ []) [] ≡ empty_end segments
empty_end-by segments b e =
    ap (λ (t : Bool). cond t ([] ∷ []) []) (e ∙ ends_in_dots segments false None refl)

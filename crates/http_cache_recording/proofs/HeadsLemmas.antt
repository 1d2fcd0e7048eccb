-- Consecutive heads, and what they record.
use Rattle.std.proofs.Common.{◌≡◌, ◌∙◌, sym, ap, refl, subst, arith, ℕ, zero, suc, ◌+◌, ◌<◌, ℤ, Bool, true, false, cond}
use Rattle.std.proofs.Common.{List, [], ◌∷◌, ◌++◌, length, map, drop}
use Rattle.std.specs.List.{prefix_len, filter, enumerate_from}
use Rattle.std.proofs.lemmas.List.{append-nil, length-drop}
use Rattle.std.proofs.lemmas.List.Elements.{filter-append}
use Rattle.http_cache_recording.specs.declared.heads.Head.{Head}
use Rattle.http_cache_recording.specs.declared.heads.HeadsError.{HeadsError}
use Rattle.http_cache_recording.specs.declared.heads.HeadsError.TheVariants.{NotAHead, NotAField, TooLong, NoHead, Memory}
use Rattle.http_cache_recording.specs.Heads.{is_heads, is_end, front_of, is_last, text_len, head_len, next_of, IsHead, AreHeads}
use Rattle.http_cache_recording.specs.Heads.{is_kept, recorded_of, recorded_all, with_head, IsFault, IsCause}

-- ---- lengths

pub text_len-next : (bytes : List ℕ) (i : ℕ) → i < length bytes → is_last (drop i bytes) ≡ false
    → text_len (drop i bytes) ≡ text_len (drop (suc i) bytes) + 1
text_len-next [] i lt other = absurd (omega (arith, lt))
text_len-next (b ∷ bytes) zero lt other = rw other refl
text_len-next (b ∷ bytes) (suc i) lt other = text_len-next bytes i (omega (arith, lt)) other

some-len : (b : Bool) (n : ℕ) → 0 < cond b 1 (n + 1)
some-len true n = omega arith
some-len false n = omega arith

text_len-some : (bytes : List ℕ) → 0 < length bytes → 0 < text_len bytes
text_len-some [] some = absurd (omega (arith, some))
text_len-some (b ∷ bytes) some = some-len (is_last (b ∷ bytes)) (text_len bytes)

heads-some : (bytes : List ℕ) → is_heads bytes ≡ true → 0 < length bytes
heads-some [] begins = cc
heads-some (b ∷ bytes) begins = omega arith

-- the next head begins later
pub next-shorter : (front : List ℕ) → is_heads front ≡ true → length (next_of front) < length front
next-shorter front begins =
    let some = heads-some front begins in
    let long = text_len-some front some in
    let rest = drop (head_len front) front in
    omega (
      arith,
      some,
      long,
      length-drop (prefix_len is_end rest) rest,
      length-drop (head_len front) front,
    )

-- ---- heads

pub heads-push : (front : List ℕ) (hs : List Head) (mid : List ℕ) (h : Head) → AreHeads front hs mid → is_heads mid ≡ true
    → IsHead mid h → AreHeads front (hs ++ h ∷ []) (next_of mid)
heads-push front [] mid h are begins one =
    subst (λ (start : List ℕ). AreHeads start (h ∷ []) (next_of mid)) (sym are) (begins, one, refl)
heads-push front (g ∷ hs) mid h are begins one = (are.0, are.1, heads-push (next_of front) hs mid h are.2 begins one)

numbered : {X Y : Type 0} (f : ℕ × X → Y) (n : ℕ) (xs : List X) (x : X)
    → map f (enumerate_from n (xs ++ x ∷ [])) ≡ map f (enumerate_from n xs) ++ f (length xs + n, x) ∷ []
numbered f n [] x = ap (λ (m : ℕ). f (m, x) ∷ []) (omega arith)
numbered f n (y ∷ ys) x =
    ap (λ l. f (n, y) ∷ l)
    (numbered f (n + 1) ys x
    ∙ ap (λ (m : ℕ). map f (enumerate_from (n + 1) ys) ++ f (m, x) ∷ []) (omega arith))

mapped-length : {X Y : Type 0} (f : ℕ × X → Y) (n : ℕ) (xs : List X) → length (map f (enumerate_from n xs)) ≡ length xs
mapped-length f n [] = refl
mapped-length f n (x ∷ xs) = ap suc (mapped-length f (n + 1) xs)

one-more : (now : ℤ) (b : Bool) (xs : List Head) (h : Head)
    → map (recorded_of now) (enumerate_from 1 (xs ++ cond b (h ∷ []) []))
    ≡ (let rs = map (recorded_of now) (enumerate_from 1 xs) in
    cond b (rs ++ recorded_of now (length rs + 1, h) ∷ []) rs)
one-more now true xs h =
    numbered (recorded_of now) 1 xs h
    ∙ ap (λ (m : ℕ). map (recorded_of now) (enumerate_from 1 xs) ++ recorded_of now (m + 1, h) ∷ [])
    (sym (mapped-length (recorded_of now) 1 xs))
one-more now false xs h = ap (λ l. map (recorded_of now) (enumerate_from 1 l)) (append-nil xs)

pub recorded-push : (now : ℤ) (hs : List Head) (h : Head)
    → recorded_all now (hs ++ h ∷ []) ≡ with_head now (recorded_all now hs) h
recorded-push now hs h =
    ap (λ l. map (recorded_of now) (enumerate_from 1 l)) (filter-append is_kept hs (h ∷ []))
    ∙ one-more now (is_kept h) (filter is_kept hs) h

pub none-recorded : (now : ℤ) (hs : List Head) → map (recorded_of now) (enumerate_from 1 hs) ≡ [] → hs ≡ []
none-recorded now [] none = refl
none-recorded now (h ∷ hs) none = cc

-- ---- errors

-- a fault in a head after others is the cause of its error
pub cause : (bytes : List ℕ) (hs : List Head) (front : List ℕ) (e : HeadsError) → AreHeads (front_of bytes) hs front
    → is_heads front ≡ true → IsFault bytes front e → IsCause bytes e
cause bytes hs front (NotAHead line) are begins fault =
    record { heads = hs; front = front; are = are; begins = begins; fault = fault }
cause bytes hs front (NotAField line name) are begins fault =
    record { heads = hs; front = front; are = are; begins = begins; fault = fault }
cause bytes hs front (TooLong line) are begins fault =
    record { heads = hs; front = front; are = are; begins = begins; fault = fault }
cause bytes hs front NoHead are begins fault = absurd fault
cause bytes hs front Memory are begins fault = tt

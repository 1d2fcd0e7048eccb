-- A text stays where a text may be, and a template's holes are such places.
use Rattle.std.proofs.Common.{◌≡◌, ◌∙◌, refl, ap, ℕ, ◌+◌, ◌/◌, ◌<◌, Bool, true, false, cond, not, Result, Ok, Err, List, [], ◌∷◌, ◌++◌, arith, eqb-true, ne_eqb, encode_utf8, lit<}
use Rattle.std.specs.Prelude.{◌==◌, ◌&&◌, OnOk, is_ok}
use Rattle.std.specs.List.{list_all}
use Rattle.std.proofs.lemmas.List.Sums.{fold-append}
use lib.Utf8.{encode, next}
use lib.Dec.{ltb}
use Rattle.http_cache_show.specs.Tags.{TagState, between, named, inside, quoted, raw, step, state_after, is_between_tags, is_between, is_open, is_value, mark_of, fits, is_template, IsTextAfter, is_safe}
use Rattle.http_cache_show.specs.declared.item.Item.{Item}

both : (p q : Bool) → p && q ≡ true → (p ≡ true) × (q ≡ true)
both true q e = (refl, e)
both false q e = cc

not-true : (t : Bool) → not t ≡ true → t ≡ false
not-true false e = refl
not-true true e = cc

-- a byte above `<` is none of the two
safe-above : (b : ℕ) (bs : List ℕ) → 60 < b → list_all is_safe bs ≡ true → list_all is_safe (b ∷ bs) ≡ true
safe-above b bs above rest =
    rw (ne_eqb b 60 (λ e. omega (arith, above)), ne_eqb b 34 (λ e. omega (arith, above))) rest

safe-next : (b : ℕ) (bs : List ℕ) → list_all is_safe bs ≡ true → list_all is_safe (next b ∷ bs) ≡ true
safe-next b bs rest = safe-above (next b) bs (omega arith) rest

if-safe : (t : Bool) (a b : List ℕ) → list_all is_safe a ≡ true → list_all is_safe b ≡ true
    → list_all is_safe (cond t a b) ≡ true
if-safe true a b is_a is_b = is_a
if-safe false a b is_a is_b = is_b

pub char-safe : (c : ℕ) → is_safe c ≡ true → list_all is_safe (encode_utf8 c) ≡ true
unfolding encode
char-safe c safe =
    let last = next c ∷ [] in
    let two = next (c / 64) ∷ last in
    let three = next (c / 4096) ∷ two in
    let one_is = safe-next c [] refl in
    let two_is = safe-next (c / 64) last one_is in
    let three_is = safe-next (c / 4096) two two_is in
    if-safe (ltb c 128) (c ∷ []) _ (rw safe refl)
    (if-safe (ltb c 2048) _ _ (safe-above (192 + c / 64) last (omega arith) one_is)
    (if-safe (ltb c 65536) _ _ (safe-above (224 + c / 4096) two (omega arith) two_is)
    (safe-above (240 + c / 262144) three (omega arith) three_is)))

stays : (s : TagState) (text : List ℕ) → is_open s ≡ true → list_all is_safe text ≡ true → state_after s text ≡ s
stays s [] here safe = refl
stays between (b ∷ bs) here safe =
    let parts = both (is_safe b) (list_all is_safe bs) safe in
    rw (not-true (b == 60) (both (not (b == 60)) (not (b == 34)) parts.0).0) (stays between bs here parts.1)
stays (quoted quote name) (b ∷ bs) here safe =
    let parts = both (is_safe b) (list_all is_safe bs) safe in
    rw (eqb-true quote 34 here) (rw (not-true (b == 34) (both (not (b == 60)) (not (b == 34)) parts.0).1) (stays (quoted 34 name) bs refl parts.1))
stays (named name) (b ∷ bs) here safe = cc
stays (inside name) (b ∷ bs) here safe = cc
stays (raw end rest) (b ∷ bs) here safe = cc

pub text-after : (added : Bool) (old text new : List ℕ) → new ≡ cond added (old ++ text) old
    → list_all is_safe text ≡ true → IsTextAfter old new
text-after true old text new is safe =
    λ here. rw is (fold-append step between old text ∙ stays (state_after between old) text here safe)
text-after false old text new is safe = λ here. ap (state_after between) is

pub text-then : (old mid new : List ℕ) → IsTextAfter old mid → IsTextAfter mid new → IsTextAfter old new
text-then old mid new one two here = let e = one here in two (ap is_open e ∙ here) ∙ e

is-between : (s : TagState) → is_between s ≡ true → s ≡ between
is-between between is = refl
is-between (named name) is = cc
is-between (inside name) is = cc
is-between (quoted quote name) is = cc
is-between (raw end rest) is = cc

-- a mark is text
passed : (s : TagState) (b : ℕ) → is_open s ≡ true → is_safe b ≡ true → step s b ≡ s
passed s b here safe = stays s (b ∷ []) here (rw safe refl)

-- a template after its front
past-front : (s : TagState) (front rest : List ℕ) → is_template s (front ++ rest) ≡ true
    → is_template (state_after s front) rest ≡ true
past-front s [] rest held = held
past-front s (b ∷ bs) rest held = past-front (step s b) bs rest (both (fits b s) (is_template (step s b) (bs ++ rest)) held).1

hole : (t : Bool) (s : TagState) → fits (cond t 64 36) s ≡ true → (is_open s ≡ true) × (step s (cond t 64 36) ≡ s)
hole true s is = (is, passed s 64 is refl)
hole false s is = rw (is-between s is) (refl, refl)

pub mark-small : (t : Bool) → cond t 64 36 < 128
mark-small true = lit< tt
mark-small false = lit< tt

-- after a hole, in which a text was put
pub past-hole : (old front mid new rest : List ℕ) (item : Item) → mid ≡ old ++ front → IsTextAfter mid new
    → is_template (state_after between old) (front ++ (mark_of item ∷ rest)) ≡ true
    → is_template (state_after between new) rest ≡ true
past-hole old front mid new rest item is text held =
    let s = state_after (state_after between old) front in
    let at : state_after between mid ≡ s = rw is (fold-append step between old front) in
    let parts = both (fits (mark_of item) s) (is_template (step s (mark_of item)) rest)
    (past-front (state_after between old) front (mark_of item ∷ rest) held) in
    let found = hole (is_value item) s parts.0 in
    rw (text (ap is_open at ∙ found.0), at) (rw found.1 at parts.1)

-- after the last hole
last-part : (s : TagState) (rest : List ℕ) → is_template s rest ≡ true → state_after s rest ≡ between
last-part s [] held = is-between s held
last-part s (b ∷ bs) held = last-part (step s b) bs (both (fits b s) (is_template (step s b) bs) held).1

pub filled : {E : Type 0} (added : Result (Unit {0}) E) (old rest new : List ℕ)
    → is_template (state_after between old) rest ≡ true → new ≡ cond (is_ok added) (old ++ rest) old
    → OnOk added (is_between_tags new)
filled (Ok _) old rest new held is =
    rw is (fold-append step between old rest ∙ last-part (state_after between old) rest held)
filled (Err _) old rest new held is = tt

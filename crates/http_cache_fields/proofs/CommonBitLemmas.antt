-- The bit that capital letters lack.
use Rattle.std.proofs.Common.{◌≡◌, ◌⊎◌, ℕ, ◌<◌, Bool, true, ◌&&◌, ◌||◌, List, [], ◌∷◌, ◌++◌, zero}
use Rattle.std.proofs.Common.{suc, refl, sym, ap, ◌∙◌, inl, inr, arith, eqb, eqb-true, bit_and}
use Rattle.std.specs.Char.{to_ascii_lowercase}
use lib.Bits.{and_zero_l}
use Rattle.std.proofs.lemmas.Bool.{cases_Bool, and_parts, eqb-false}
use Rattle.std.proofs.lemmas.List.{map-append}
use Rattle.http_header.specs.Token.{lowercase}

all_under : (ℕ → Bool) → ℕ → Bool
all_under test zero = true
all_under test (suc n) = test n && all_under test n

all_under-at : (test : ℕ → Bool) (n b : ℕ) → all_under test n ≡ true → b < n → test b ≡ true
unfolding all_under
all_under-at test zero b e h = absurd (omega arith)
all_under-at test (suc n) b e h =
    let parts = and_parts (test n) (all_under test n) e in
    elim (cases_Bool (eqb b n)) [
      | inl same ↦ ap test (eqb-true b n same) ∙ parts.0
      | inr apart ↦ let other = eqb-false b n apart in all_under-at test n b parts.1 (omega arith)
    ]

abbrev keeps : ℕ → Bool
keeps b = eqb (bit_and 32 b) 0 || (eqb (bit_and 32 b) 32 && eqb (to_ascii_lowercase b) b)

-- each byte has the bit, so lower case changes none
pub record HasCommonBit (bs : List ℕ) (common : ℕ) : Type 0 where
  pub bit : (common ≡ 0) ⊎ (common ≡ 32)
  pub lower : common ≡ 32 → lowercase bs ≡ bs

pub HasCommonBit-push : (bs : List ℕ) (common b : ℕ) → b < 256 → HasCommonBit bs common
    → HasCommonBit (bs ++ b ∷ []) (bit_and common b)
unfolding all_under
HasCommonBit-push bs common b small h = by common h.bit h.lower
  where
    kept : keeps b ≡ true
    kept = all_under-at keeps 256 b refl small

    by : (common : ℕ) → (common ≡ 0) ⊎ (common ≡ 32) → (common ≡ 32 → lowercase bs ≡ bs)
        → HasCommonBit (bs ++ b ∷ []) (bit_and common b)
    by common (inl e) lower =
        let none : bit_and common b ≡ 0 = ap (λ c. bit_and c b) e ∙ and_zero_l b in
        record { bit = inl none; lower = λ f. absurd (omega arith) }
    by common (inr e) lower =
        let same : bit_and common b ≡ bit_and 32 b = ap (λ c. bit_and c b) e in
        elim (cases_Bool (eqb (bit_and 32 b) 0)) [
          | inl none ↦ let zeroed : bit_and common b ≡ 0 = same ∙ eqb-true (bit_and 32 b) 0 none in
              record { bit = inl zeroed; lower = λ f. absurd (omega arith) }
          | inr some ↦
              let rest = and_parts (eqb (bit_and 32 b) 32) (eqb (to_ascii_lowercase b) b)
              (sym (ap (λ t. t || (eqb (bit_and 32 b) 32 && eqb (to_ascii_lowercase b) b)) some) ∙ kept) in
              record {
                bit = inr (same ∙ eqb-true (bit_and 32 b) 32 rest.0);
                lower = λ f. map-append to_ascii_lowercase bs (b ∷ [])
                    ∙ (λ i. lower e i ++ eqb-true (to_ascii_lowercase b) b rest.1 i ∷ []);
              }
        ]

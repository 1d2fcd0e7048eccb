-- Lines of printable bytes are a printable text.
use Rattle.std.proofs.Common.{◌≡◌, ◌∙◌, ap, refl, ℕ, ◌&&◌, ◌||◌, nat_le, Bool, true, false, List, [], ◌∷◌, ◌++◌, map, codes, if◌then◌else◌}
use Rattle.std.specs.Prelude.{◌==◌}
use Rattle.std.specs.List.{list_all}
use Rattle.std.proofs.lemmas.List.Folds.{list_all-append}
use Rattle.http_cache_show.specs.Printable.{printed_byte, is_plain, IsPlain}

or-true : (a b : Bool) → b ≡ true → (a || b) ≡ true
or-true true b is = refl
or-true false b is = is

plain-if : (within : Bool) (b : ℕ) → (nat_le 32 b && nat_le b 126) ≡ within → is_plain (if within then b else 63) ≡ true
plain-if true b is = or-true (b == 10) (nat_le 32 b && nat_le b 126) is
plain-if false b is = refl

plain-line : (line : List ℕ) → IsPlain (map printed_byte line)
plain-line [] = refl
plain-line (b ∷ bs) =
    ap (λ x. x && list_all is_plain (map printed_byte bs)) (plain-if (nat_le 32 b && nat_le b 126) b refl) ∙ plain-line bs

joined : (xs ys : List ℕ) → IsPlain xs → IsPlain ys → IsPlain (xs ++ ys)
joined xs ys x y = list_all-append is_plain xs ys ∙ (ap (λ b. b && list_all is_plain ys) x ∙ y)

pub plain-push : (text line : List ℕ) → IsPlain text → IsPlain ((text ++ map printed_byte line) ++ codes "\n")
plain-push text line is =
    joined (text ++ map printed_byte line) (codes "\n") (joined text (map printed_byte line) is (plain-line line)) refl

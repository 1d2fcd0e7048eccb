-- The digits of the age make a value, and so does the date after them.
use Rattle.std.proofs.Common.{◌≡◌, ℕ, List, [], ◌∷◌, decimal, IsTrue, rules, arith, sym, subst}
use Rattle.std.proofs.Math.Seq.{take-append_seam, drop-append_seam}
use Rattle.std.proofs.lemmas.Bool.Decides.{nat_tests}
use Rattle.std.proofs.lemmas.Fmt.{decimal_is_IsNumeral}
use Rattle.std.proofs.lemmas.List.Elements.{All-nil, All-cons}
use Rattle.std.specs.Str.Parse.{AllDigits}
use Rattle.http_header.specs.FieldValue.{IsFieldValue}
use Rattle.http_header.specs.Token.{is_value_byte}
use Rattle.http_cache_policy.proofs.before.fresh.age_and_date.Goals as goal

digits_are_value : (bytes : List ℕ) → AllDigits 10 bytes → IsFieldValue bytes
digits_are_value [] h = All-nil (λ b. IsTrue (is_value_byte b))
digits_are_value (b ∷ bytes) h =
    All-cons (λ x. IsTrue (is_value_byte x)) b bytes (grind (arith, nat_tests)) (digits_are_value bytes h.1)

pub from_known_valid-requires : goal.from_known_valid-requires
from_known_valid-requires c =
    let seam = take-append_seam c.format.result.now c.args.date.now in
    let age : c.in_ok-age.age ≡ decimal c.args.seconds = search (rules, seam) in
    subst IsFieldValue (sym age)
    (digits_are_value _ (decimal_is_IsNumeral c.args.seconds (omega (arith, c.ranges.seconds))).0.1)

pub from_known_valid-requires-2 : goal.from_known_valid-requires-2
from_known_valid-requires-2 c =
    let seam = drop-append_seam c.format.result.now c.args.date.now in
    let rest : c.split_to.new.self ≡ c.args.date.now = search (rules, seam) in
    subst IsFieldValue (sym rest) c.requires

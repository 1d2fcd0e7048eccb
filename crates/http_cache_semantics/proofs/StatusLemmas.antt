-- An item of a structured field is a field value.
use Rattle.std.proofs.Common.{◌≡◌, ℕ, pos, ◌≤◌, Bool, true, false, ◌||◌, ◌==◌, List, [], ◌∷◌}
use Rattle.std.proofs.Common.{◌++◌, codes, decimal, refl, sym, subst, ◌∙◌, arith, if◌then◌else◌}
use Rattle.std.specs.List.{list_all, flat_map}
use Rattle.std.proofs.lemmas.Bool.{and_parts, and_from}
use Rattle.std.proofs.lemmas.Bool.Decides.{nat_tests}
use Rattle.std.proofs.lemmas.List.Concat.{flat_map-cons}
use Rattle.std.proofs.lemmas.List.Folds.{list_all-append}
use Rattle.std.proofs.lemmas.List.Sums.{list_all-from_AllPass}
use Rattle.http_header.specs.Token.{is_token_byte, is_value_byte}
use Rattle.http_header.proofs.TokenLemmas.{token_byte_range, IsFieldValue-signed_decimal}
use Rattle.http_cache_reasons.specs.StructuredField.{is_in_token, is_printable}
use Rattle.http_cache_reasons.specs.StructuredField.{escaped, is_lower, is_in_key, is_key}
use Rattle.http_cache_reasons.specs.StructuredField.{IsBareItem, is_string, is_token, is_integer, is_negative}
use Rattle.http_cache_reasons.specs.StructuredField.{IsParameter, is_flag, has_value}
use Rattle.http_cache_reasons.specs.StructuredField.{IsItem, is_bare, with_parameter}

abbrev IsSendable : List ℕ → Type 0
IsSendable text = list_all is_value_byte text ≡ true

joined : (xs ys : List ℕ) → IsSendable xs → IsSendable ys → IsSendable (xs ++ ys)
joined xs ys front back =
    list_all-append is_value_byte xs ys
    ∙ and_from (list_all is_value_byte xs) (list_all is_value_byte ys) front back

weaker : (p : ℕ → Bool) → ((b : ℕ) → p b ≡ true → is_value_byte b ≡ true)
    → (text : List ℕ) → list_all p text ≡ true → IsSendable text
weaker p implied [] all = refl
weaker p implied (b ∷ bs) all =
    let parts = and_parts (p b) (list_all p bs) all in
    and_from (is_value_byte b) (list_all is_value_byte bs) (implied b parts.0) (weaker p implied bs parts.1)

token_byte-sendable : (b : ℕ) → is_in_token b ≡ true → is_value_byte b ≡ true
token_byte-sendable b is = by (is_token_byte b) refl
  where
    by : (t : Bool) → is_token_byte b ≡ t → is_value_byte b ≡ true
    by true passes = let range = token_byte_range b passes in grind (arith, nat_tests)
    by false fails =
        let rest : (b == 58 || b == 47) ≡ true = subst (λ (t : Bool). (t || b == 58 || b == 47) ≡ true) fails is in
        grind (arith, nat_tests)

escaped-sendable : (b : ℕ) → is_printable b ≡ true → IsSendable (escaped b)
escaped-sendable b is = by (b == 34 || b == 92)
  where
    sendable : is_value_byte b ≡ true
    sendable = grind (arith, nat_tests)

    by : (t : Bool) → IsSendable (if t then 92 ∷ b ∷ [] else b ∷ [])
    by true = and_from (is_value_byte b) true sendable refl
    by false = and_from (is_value_byte b) true sendable refl

key_byte-sendable : (b : ℕ) → is_in_key b ≡ true → is_value_byte b ≡ true
key_byte-sendable b is = grind (arith, nat_tests)

all_escaped-sendable : (text : List ℕ) → list_all is_printable text ≡ true → IsSendable (flat_map escaped text)
all_escaped-sendable [] all = refl
all_escaped-sendable (b ∷ bs) all =
    let parts = and_parts (is_printable b) (list_all is_printable bs) all in
    subst IsSendable (sym (flat_map-cons escaped b bs))
    (joined (escaped b) (flat_map escaped bs) (escaped-sendable b parts.0) (all_escaped-sendable bs parts.1))

decimal-sendable : (n : ℕ) → n ≤ 999_999_999_999_999 → IsSendable (decimal n)
decimal-sendable n few =
    list_all-from_AllPass is_value_byte (decimal n) (IsFieldValue-signed_decimal (pos n) (omega (arith, few)))

bare-sendable : (item : List ℕ) → IsBareItem item → IsSendable item
bare-sendable _ (is_string text all) =
    joined (codes "\"") (flat_map escaped text ++ codes "\"") refl
    (joined (flat_map escaped text) (codes "\"") (all_escaped-sendable text all) refl)
bare-sendable _ (is_token text is) =
    weaker is_in_token token_byte-sendable text (and_parts _ (list_all is_in_token text) is).1
bare-sendable _ (is_integer n few) = decimal-sendable n few
bare-sendable _ (is_negative n few) = joined (codes "-") (decimal n) refl (decimal-sendable n few)

key-sendable : (key : List ℕ) → is_key key ≡ true → IsSendable key
key-sendable [] is = refl
key-sendable (b ∷ bs) is =
    let parts = and_parts (is_lower b || b == 42) (list_all is_in_key bs) is in
    let first : is_value_byte b ≡ true = let begins = parts.0 in grind (arith, nat_tests) in
    and_from (is_value_byte b) (list_all is_value_byte bs) first (weaker is_in_key key_byte-sendable bs parts.1)

parameter-sendable : (text : List ℕ) → IsParameter text → IsSendable text
parameter-sendable _ (is_flag key is) = joined (codes "; ") key refl (key-sendable key is)
parameter-sendable _ (has_value key value is item) =
    joined (codes "; " ++ key ++ codes "=") value
    (joined (codes "; " ++ key) (codes "=") (joined (codes "; ") key refl (key-sendable key is)) refl)
    (bare-sendable value item)

item-sendable : (text : List ℕ) → IsItem text → IsSendable text
item-sendable _ (is_bare item is) = bare-sendable item is
item-sendable _ (with_parameter front parameter item is) =
    joined front parameter (item-sendable front item) (parameter-sendable parameter is)

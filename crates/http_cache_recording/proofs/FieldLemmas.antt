-- A test that decides a fact.
use Rattle.std.proofs.Common.{◌≡◌, ℕ, List, length, Bool, Some, None, Decides, ap}
use Rattle.std.proofs.lemmas.Bool.{false_from_ne_true, true_from_ne_false, leb-true, le-leb}
use Rattle.std.proofs.lemmas.Bool.Decides.{not_from_Decides, Decides-and, Decides-ltb}
use Rattle.std.proofs.lemmas.List.Sums.{AllPass-from_list_all, list_all-from_AllPass}
use Rattle.http_header.specs.Token.{is_value_byte, is_token_byte, IsToken}
use Rattle.http_header.specs.FieldName.{is_field_name, IsFieldName}
use Rattle.http_header.specs.FieldValue.{IsFieldValue}
use Rattle.http_cache_json.specs.Form.{given}
use Rattle.http_cache_recording.specs.Fields.{is_value}
use Rattle.http_cache_recording.specs.Element.{is_token}

module _ {P : Type 0} (b : Bool) (is : Decides b P) where
  pub holds : ((P → ⊥) → ⊥) → P
  holds good = is.0 (true_from_ne_false b (λ n. good (not_from_Decides b is n)))

  pub given_yes : {A : Type 0} (x : A) → ((P → ⊥) → ⊥) → given b x ≡ Some x
  given_yes x good = ap (λ (t : Bool). given t x) (is.1 (holds good))

  pub given_no : {A : Type 0} (x : A) → (P → ⊥) → given b x ≡ None
  given_no x bad = ap (λ (t : Bool). given t x) (false_from_ne_true b (λ y. bad (is.0 y)))

pub is_value-Decides : (t : List ℕ) → Decides (is_value t) (IsFieldValue t)
is_value-Decides t = (AllPass-from_list_all is_value_byte t, list_all-from_AllPass is_value_byte t)

pub is_token-Decides : (t : List ℕ) → Decides (is_token t) (IsToken t)
is_token-Decides t =
    Decides-and _ _ (Decides-ltb 0 (length t))
    (AllPass-from_list_all is_token_byte t, list_all-from_AllPass is_token_byte t)

pub is_field_name-Decides : (t : List ℕ) → Decides (is_field_name t) (IsFieldName t)
unfolding is_token_byte
is_field_name-Decides t =
    Decides-and _ _ (is_token-Decides t) (leb-true (length t) 65_535, le-leb (length t) 65_535)

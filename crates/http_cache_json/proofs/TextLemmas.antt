-- Texts in hexadecimal and their values.
use Rattle.std.proofs.Common.{◌≡◌, ℕ, Bool, true, false, true≢false, List, Option, Some, Ok, refl, sym, ap, ◌∙◌}
use Rattle.std.specs.List.{list_all}
use Rattle.std.proofs.lemmas.List.Sums.{list_all-from_AllPass}
use Rattle.hex.specs.Hex.{decode_of}
use Rattle.http_header.specs.Token.{is_value_byte}
use Rattle.http_header.specs.FieldValue.{IsFieldValue}
use Rattle.serde_json.specs.Data.{Data}
use Rattle.serde_json.specs.Find.{as_str}
use Rattle.http_cache_json.specs.Form.{given, ◌>>=◌}
use Rattle.http_cache_json.specs.HeaderObject.{ok_of, value_of_text}

decide : (b : Bool) → ((b ≡ true → ⊥) → ⊥) → b ≡ true
decide true h = refl
decide false h = absurd (h (λ e. true≢false (sym e)))

pub value_passes : (bytes : List ℕ) → ((IsFieldValue bytes → ⊥) → ⊥) → list_all is_value_byte bytes ≡ true
value_passes bytes h = decide _ (λ no. h (λ all. no (list_all-from_AllPass is_value_byte bytes all)))

bind_some : {A B : Type 0} (r : Option A) (x : A) (f : A → Option B) → r ≡ Some x → (r >>= f) ≡ f x
bind_some r x f e = rw e

pub text_value : (d : Data) (text bytes : List ℕ) → Some text ≡ as_str d → decode_of text ≡ Ok bytes
    → list_all is_value_byte bytes ≡ true
    → value_of_text d ≡ Some bytes
unfolding value_of_text
text_value d text bytes e1 e2 e3 =
    bind_some (as_str d) text _ (sym e1) ∙ bind_some (ok_of (decode_of text)) bytes _ (ap ok_of e2)
    ∙ ap (λ b. given b bytes) e3

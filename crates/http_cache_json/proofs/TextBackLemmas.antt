-- A field value that is written in hexadecimal reads back.
use Rattle.std.proofs.Common.{◌≡◌, ℕ, List, [], ◌∷◌, map, Some, refl}
use Rattle.std.specs.List.{AllZip, AllByRecursion}
use Rattle.std.proofs.lemmas.List.Sums.{list_all-from_AllPass}
use Rattle.hex.specs.Hex.{encode_lower}
use Rattle.hex.proofs.HexLemmas.{decode_of-encode_lower}
use Rattle.http_header.specs.Token.{is_value_byte}
use Rattle.http_cache_json.specs.HeaderObject.{value_of_text, IsValueText, text_data}
use Rattle.http_cache_json.specs.ReadBack.{IsReadableValue}
use Rattle.http_cache_json.proofs.TextLemmas.{text_value}

text_back : (v : List ℕ) → IsReadableValue v → value_of_text (text_data v) ≡ Some v
text_back v h =
    text_value (text_data v) (encode_lower v) v refl (decode_of-encode_lower v h.bytes)
    (list_all-from_AllPass is_value_byte v h.value)

pub texts_back : (vs : List (List ℕ)) → AllByRecursion IsReadableValue vs
    → AllZip IsValueText (map text_data vs) vs
texts_back [] h = tt
texts_back (v ∷ vs) h = (text_back v h.0, texts_back vs h.1)

-- Headers as an object: under each name a list of texts in hexadecimal, one for each value.
use Rattle.std.specs.Prelude.{◌≡◌, ◌≢◌, ℕ, ◌<◌, List, [], ◌∷◌, map, length, Option, Some, None, Result, Ok, Err}
use Rattle.std.specs.Prelude.{IsSomeAnd, String, string_bytes}
use Rattle.std.specs.declared.alloc.Global.{Global}
use Rattle.serde_json.specs.declared.value.Value.{Value}
use Rattle.std.specs.List.{list_all, AllZip}
use Rattle.std.specs.FinMap as fin
use Rattle.hex.specs.Hex.{decode_of, encode_lower}
use Rattle.http_header.specs.FieldName.{IsHeaderName}
use Rattle.http_header.specs.HeaderMap.{Entry, Entries, pairs}
use Rattle.http_header.specs.Token.{is_value_byte}
use Rattle.http_cache_fields.specs.Headers.{Headers}
use Rattle.serde_json.specs.Data.{Data, string, array, object, Members, no_members, member}
use Rattle.serde_json.specs.Find.{as_str, as_object}
use Rattle.serde_json.specs.View.{items_of, view}
use Rattle.http_cache_json.specs.Form.{◌>>=◌, given}
use Rattle.http_cache_json.specs.Lists.{IsListOf}
use Rattle.http_cache_json.specs.Pairs.{HoldsPairs}

abbrev pub ok_of : {A E : Type 0} → Result A E → Option A
ok_of (Ok x) = Some x
ok_of (Err e) = None

unfoldable pub value_of_text : Data → Option (List ℕ)
value_of_text d = do
  text ← as_str d
  bytes ← ok_of (decode_of text)
  given (list_all is_value_byte bytes) bytes

abbrev pub IsValueText : Data → List ℕ → Type 0
IsValueText d v = value_of_text d ≡ Some v

abbrev pub Member : Type 0
Member = List ℕ × Data

abbrev pub member_of : String Global × Value → Member
member_of m = (string_bytes m.0, view m.1)

abbrev pub members_in : Members → List Member
members_in no_members = []
members_in (member name d ms) = (name, d) ∷ members_in ms

-- a field name without upper-case letters, and at least one value
pub record IsHeaderMember (m : Member) (e : Entry (List ℕ)) : Type 0 where
  pub name : e.0 ≡ m.0
  pub header_name : IsHeaderName m.0
  pub listed : IsListOf IsValueText m.1 e.1
  pub some : 0 < length e.1

pub record IsHeaderObject (d : Data) (h : Headers) : Type 0 where
  pub entries : Entries (List ℕ)
  pub listed : IsSomeAnd (as_object d) (λ ms. AllZip IsHeaderMember (members_in ms) entries)
  pub held : HoldsPairs (pairs entries) h

abbrev pub text_data : List ℕ → Data
text_data v = string (encode_lower v)

abbrev pub texts_data : List (List ℕ) → Data
texts_data vs = array (items_of (map text_data vs))

abbrev pub members_data : Entries (List ℕ) → Members
members_data [] = no_members
members_data (e ∷ es) = member e.0 (texts_data e.1) (members_data es)

-- in the order of the names
abbrev pub headers_data : Headers → Data
headers_data h = object (members_data (fin.entries h))

abbrev pub IsFilled : Headers → Type 0
IsFilled h = (name : List ℕ) → fin.get h name ≢ Some []

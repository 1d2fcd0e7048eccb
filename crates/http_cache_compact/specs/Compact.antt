-- The compact form of a policy: 52 bytes of numbers, and then texts with the lengths among these.
--
-- Numbers are big-endian. At 0: the version, 1. At 1: 1 for a shared cache, plus 2 if cargo-cult
-- directives are ignored. At 2 and 6: the heuristic fraction. At 10 and 18: the seconds and
-- nanoseconds for `immutable`. At 22 and 30: the second and nanosecond of the response time. At 34:
-- the status. At 36 and 40: the lengths of the method and the target. At 44 and 48: the numbers of
-- field lines of the request and the response. At 52: the method, the target, the field lines of
-- the request and those of the response. A field line: the lengths of its name and its value, in 2
-- and 4 bytes, the name and the value.
use Rattle.std.specs.Prelude.{◌≡◌, ℕ, zero, suc, ◌+◌, ◌*◌, ◌%◌, ◌==◌, ◌&&◌, nat_lt, nat_le, ℤ, Bool, true, List, [], ◌∷◌, length, take, drop, slice_index, Option, Some, IsSomeAnd}
use Rattle.std.specs.List.{AllByRecursion}
use Rattle.std.specs.Int.{w16, w32, w64, from_be_bytes, cast_signed}
use Rattle.http.specs.StatusCode.{IsStatusCode}
use Rattle.http_header.specs.Token.{IsToken}
use Rattle.http_header.specs.FieldName.{IsFieldName}
use Rattle.http_header.specs.FieldValue.{IsFieldValue}
use Rattle.http_uri.specs.Uri.{Spells}
use Rattle.http_cache_rules.specs.Options.{Options}
use Rattle.http_cache_rules.specs.Exchange.{Exchange}
use Rattle.http_cache_fields.specs.Headers.{Headers}
use Rattle.http_cache_json.specs.Form.{◌>>=◌, given, is_instant, instant_at}
use Rattle.http_cache_json.specs.Pairs.{Pair, HoldsPairs}

unfoldable pub number_2 : List ℕ → ℕ → ℕ
number_2 bytes at = from_be_bytes w16 (slice_index bytes at ∷ slice_index bytes (at + 1) ∷ [])

unfoldable pub number_4 : List ℕ → ℕ → ℕ
number_4 bytes at =
    from_be_bytes w32
    (slice_index bytes at ∷ slice_index bytes (at + 1) ∷ slice_index bytes (at + 2)
    ∷ slice_index bytes (at + 3) ∷ [])

unfoldable pub number_8 : List ℕ → ℕ → ℕ
number_8 bytes at =
    from_be_bytes w64
    (slice_index bytes at ∷ slice_index bytes (at + 1) ∷ slice_index bytes (at + 2)
    ∷ slice_index bytes (at + 3) ∷ slice_index bytes (at + 4) ∷ slice_index bytes (at + 5)
    ∷ slice_index bytes (at + 6) ∷ slice_index bytes (at + 7) ∷ [])

-- the first n bytes, and the rest
unfoldable pub cut : ℕ → List ℕ → Option (List ℕ × List ℕ)
cut n bytes = given (nat_le n (length bytes)) (take n bytes, drop n bytes)

-- the first field line, and the rest
unfoldable pub field_of : List ℕ → Option (Pair × List ℕ)
field_of bytes = do
  lines ← given (nat_le 6 (length bytes)) (drop 6 bytes)
  name ← cut (number_2 bytes 0) lines
  value ← cut (number_4 bytes 2) name.1
  Some ((name.0, value.0), value.1)

-- the first field lines, and the rest
unfoldable pub fields_of : ℕ → List ℕ → Option (List Pair × List ℕ)
fields_of zero bytes = Some ([], bytes)
fields_of (suc n) bytes = do
  field ← field_of bytes
  others ← fields_of n field.1
  Some (field.0 ∷ others.0, others.1)

abbrev pub options_at : List ℕ → Options
options_at bytes = record {
  shared = slice_index bytes 1 % 2 == 1;
  heuristic = record { numerator = number_4 bytes 2; denominator = number_4 bytes 6 };
  immutable_nanos = number_8 bytes 10 * 1_000_000_000 + number_4 bytes 18;
  ignores_cargo_cult = nat_le 2 (slice_index bytes 1);
}

-- the numbers of the options are in range
abbrev pub are_options : List ℕ → Bool
are_options bytes =
    nat_lt (slice_index bytes 1) 4 && nat_lt (number_4 bytes 18) 1_000_000_000
    && nat_lt 0 (number_4 bytes 6)

abbrev pub time_at : List ℕ → ℤ
time_at bytes = instant_at (cast_signed w64 (number_8 bytes 22)) (number_4 bytes 30)

-- the response time, if its nanoseconds are below a second and a date can have it
unfoldable pub time_of : List ℕ → Option ℤ
time_of bytes =
    given (nat_lt (number_4 bytes 30) 1_000_000_000 && is_instant (time_at bytes)) (time_at bytes)

pub record Texts : Type 0 where
  pub method : List ℕ
  pub target : List ℕ
  pub request : List Pair
  pub response : List Pair

-- the texts after the numbers, with nothing after them
unfoldable pub texts_of : List ℕ → Option Texts
texts_of bytes = do
  method ← cut (number_4 bytes 36) (drop 52 bytes)
  target ← cut (number_4 bytes 40) method.1
  request ← fields_of (number_4 bytes 44) target.1
  response ← fields_of (number_4 bytes 48) request.1
  given (length response.1 == 0) (record {
    method = method.0;
    target = target.0;
    request = request.0;
    response = response.0;
  })

-- the bytes begin with the version, and with options in range
unfoldable pub has_numbers : List ℕ → Bool
has_numbers bytes =
    nat_le 52 (length bytes) && slice_index bytes 0 == 1 && are_options bytes

-- a header map accepts the name and the value
abbrev pub IsField : Pair → Type 0
IsField p = IsFieldName p.0 × IsFieldValue p.1

-- the headers hold the field lines
pub record AreHeaders (fields : List Pair) (h : Headers) : Type 0 where
  pub valid : AllByRecursion IsField fields
  pub held : HoldsPairs fields h

pub record AreTextsOf (t : Texts) (e : Exchange) : Type 0 where
  pub method : e.method ≡ t.method
  pub token : IsToken t.method
  pub target : Spells t.target e.target
  pub request : AreHeaders t.request e.request_headers
  pub response : AreHeaders t.response e.response_headers

pub record IsCompactOf (bytes : List ℕ) (e : Exchange) : Type 0 where
  pub numbers : has_numbers bytes ≡ true
  pub options : e.options ≡ options_at bytes
  pub response_time : time_of bytes ≡ Some e.response_time
  pub status : e.status ≡ number_2 bytes 34
  pub code : IsStatusCode e.status
  pub texts : IsSomeAnd (texts_of bytes) (λ t. AreTextsOf t e)

-- the texts of a form begin here; the texts of field lines extend to the end
pub record AreTextsIn (bytes method target request response : List ℕ) : Type 0 where
  pub asked : List Pair
  pub answered : List Pair
  pub request_is : fields_of (number_4 bytes 44) request ≡ Some (asked, response)
  pub response_is : fields_of (number_4 bytes 48) response ≡ Some (answered, [])
  pub texts : texts_of bytes
      ≡ Some (record { method = method; target = target; request = asked; response = answered })

-- The text of a compact form.
use Rattle.std.specs.Prelude.{ℕ, ◌+◌, ◌/◌, ◌%◌, ◌<◌, ◌^◌, ℤ, pos, unsigned_abs, List, [], ◌∷◌, ◌++◌, length, map, flat_map, if◌then◌else◌}
use Rattle.std.specs.List.{AllByRecursion}
use Rattle.std.specs.Int.{w16, w32, w64, to_be_bytes, cast_unsigned, int_div_euclid, int_rem_euclid}
use Rattle.http.specs.StatusCode.{IsStatusCode}
use Rattle.http_header.specs.Token.{IsToken}
use Rattle.http_header.specs.FieldName.{IsHeaderName}
use Rattle.http_header.specs.FieldValue.{FieldValue, IsFieldValue}
use Rattle.http_header.specs.HeaderMap.{Entries, pairs}
use Rattle.http_uri.specs.Uri.{uri_text}
use Rattle.jiff_core.specs.Timestamp.{IsTimestampNanos}
use Rattle.http_cache_fields.specs.Headers.{headers_of}
use Rattle.http_cache_rules.specs.Exchange.{Exchange}
use Rattle.http_cache_rules.specs.Options.{Options, options_of}
use Rattle.http_cache_json.specs.FormData.{AreInRange}
use Rattle.http_cache_json.specs.Pairs.{Pair}
use Rattle.http_cache_compact.specs.Compact.{Texts}
use Rattle.http_cache_compact.specs.declared.write.Kept.{Kept}

-- 1 for a shared cache, plus 2 if cargo-cult directives are ignored
abbrev pub flags_of : Options → ℕ
flags_of o = (if o.shared then 1 else 0) + (if o.ignores_cargo_cult then 2 else 0)

unfoldable pub text_2 : ℕ → List ℕ
text_2 n = to_be_bytes w16 n

unfoldable pub text_4 : ℕ → List ℕ
text_4 n = to_be_bytes w32 n

unfoldable pub text_8 : ℕ → List ℕ
text_8 n = to_be_bytes w64 n

unfoldable pub options_text : Options → List ℕ
options_text o =
    flags_of o ∷ [] ++ text_4 o.heuristic.numerator ++ text_4 o.heuristic.denominator
    ++ text_8 (o.immutable_nanos / 1_000_000_000)
    ++ text_4 (o.immutable_nanos % 1_000_000_000)

unfoldable pub time_text : ℤ → List ℕ
time_text t =
    text_8 (cast_unsigned w64 (int_div_euclid t (pos 1_000_000_000)))
    ++ text_4 (unsigned_abs (int_rem_euclid t (pos 1_000_000_000)))

abbrev pub field_text : Pair → List ℕ
field_text p = text_2 (length p.0) ++ text_4 (length p.1) ++ p.0 ++ p.1

abbrev pub fields_in : Entries FieldValue → List Pair
fields_in m = map (λ p. (p.0, p.1.bytes)) (pairs m)

-- the numbers at the front, with the lengths of the method and the target and the counts of lines
unfoldable pub numbers_text : Exchange → ℕ → ℕ → ℕ → ℕ → List ℕ
numbers_text e method target asked answered =
    1 ∷ [] ++ options_text e.options ++ time_text e.response_time ++ text_2 e.status
    ++ text_4 method ++ text_4 target ++ text_4 asked
    ++ text_4 answered

abbrev pub compact_text : Exchange → Texts → List ℕ
compact_text e t =
    numbers_text e (length t.method) (length t.target) (length t.request) (length t.response)
    ++ t.method ++ t.target ++ flat_map field_text t.request ++ flat_map field_text t.response

-- a field line that a header map accepts, and whose lengths fit their numbers
pub record IsWritableField (p : Pair) : Type 0 where
  pub name : IsHeaderName p.0
  pub value : IsFieldValue p.1
  pub name_length : length p.0 < 2 ^ 16
  pub value_length : length p.1 < 2 ^ 32

pub record AreWritable (ps : List Pair) : Type 0 where
  pub fields : AllByRecursion IsWritableField ps
  pub count : length ps < 2 ^ 32

-- what holds of all that is written
pub record IsWritable (e : Exchange) (t : Texts) : Type 0 where
  pub token : IsToken t.method
  pub code : IsStatusCode e.status
  pub response_time : IsTimestampNanos e.response_time
  pub options : AreInRange e.options
  pub immutable : e.options.immutable_nanos / 1_000_000_000 < 2 ^ 64
  pub method : length t.method < 2 ^ 32
  pub target : length t.target < 2 ^ 32
  pub request : AreWritable t.request
  pub response : AreWritable t.response

abbrev pub texts_kept : Kept → Texts
texts_kept k = record {
  method = k.method.now;
  target = uri_text k.target.now;
  request = fields_in k.request_headers.now;
  response = fields_in k.response_headers.now;
}

abbrev pub exchange_kept : Kept → Exchange
exchange_kept k = record {
  target = k.target.now;
  method = k.method.now;
  status = k.status;
  request_headers = headers_of k.request_headers.now;
  response_headers = headers_of k.response_headers.now;
  options = options_of k.options;
  response_time = k.response_time.nanosecond;
}

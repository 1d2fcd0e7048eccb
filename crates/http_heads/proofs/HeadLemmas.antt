-- The parts that are read of spans are the head's.
use Rattle.std.proofs.Common.{◌≡◌, ℕ, List, [], ◌∷◌, map, take, drop, length, refl, ap, ◌∙◌, subst}
use Rattle.std.proofs.Math.Seq.{drop-length}
use Rattle.http.specs.declared.request.Parts as Request
use Rattle.http.specs.declared.response.Parts as Response
use Rattle.http_header.specs.FieldValue.{FieldValue}
use Rattle.http_header.specs.HeaderMap.{Entries, append, append_all}
use Rattle.http_uri.specs.Uri.{Spells}
use Rattle.httparse.specs.Grammar.{Field, ReadsRequest, ReadsResponse}
use Rattle.httparse.specs.Spans.{header_bytes, AreFieldsAt, IsRequestOf, IsResponseOf}
use Rattle.httparse.specs.declared.spans.HeaderSpan.{HeaderSpan}
use Rattle.httparse.specs.declared.spans.RequestSpans.{RequestSpans}
use Rattle.httparse.specs.declared.spans.ResponseSpans.{ResponseSpans}
use Rattle.http1_typed.specs.Parts.{version_of, entry_at, map_at, IsRequestParts, IsResponseParts}
use Rattle.std.specs.Prelude.{fold}
use Rattle.http_heads.specs.Heads.{entry_of, headers_in, IsRequest, IsResponse}

pub appended : (head : List ℕ) (m : Entries FieldValue) (spans : List HeaderSpan)
    → fold (λ n h. append n (entry_at head h).0 (entry_at head h).1) m spans
    ≡ append_all m (map entry_of (map (header_bytes head) spans))
appended head m [] = refl
appended head m (s ∷ spans) = appended head (append m (entry_at head s).0 (entry_at head s).1) spans

headers_are : (head : List ℕ) (spans : List HeaderSpan) (count : ℕ) (fields : List Field)
    → AreFieldsAt head spans count fields → map_at head (take count spans) ≡ headers_in fields
headers_are head spans count fields are =
    appended head [] (take count spans) ∙ ap (λ l. append_all [] (map entry_of l)) are

pub nothing_left : (bytes : List ℕ) (n : ℕ) → n ≡ length bytes → drop n bytes ≡ []
nothing_left bytes n e = ap (λ k. drop k bytes) e ∙ drop-length bytes

pub request_is : (bytes : List ℕ) (spans : List HeaderSpan) (r : RequestSpans) (p : Request.Parts)
    → IsRequestOf bytes spans r → r.len ≡ length bytes → IsRequestParts bytes spans r p → IsRequest bytes p
request_is bytes spans r p (h, at) whole is = record {
  head = h;
  reads = subst (λ (rest : List ℕ). ReadsRequest bytes h rest) (nothing_left bytes r.len whole) at.reads;
  method = is.method ∙ at.method;
  target = subst (λ (t : List ℕ). Spells t p.uri) at.path is.uri;
  version = is.version ∙ ap version_of at.version;
  headers = is.headers ∙ headers_are bytes spans r.headers h.fields at.fields;
}

pub response_is : (bytes : List ℕ) (spans : List HeaderSpan) (r : ResponseSpans) (p : Response.Parts)
    → IsResponseOf bytes spans r → r.len ≡ length bytes → IsResponseParts bytes spans r p → IsResponse bytes p
response_is bytes spans r p (h, at) whole is = record {
  head = h;
  reads = subst (λ (rest : List ℕ). ReadsResponse bytes h rest) (nothing_left bytes r.len whole) at.reads;
  status = is.status ∙ at.code;
  version = is.version ∙ ap version_of at.version;
  headers = is.headers ∙ headers_are bytes spans r.headers h.fields at.fields;
}

-- Why a message can't be made of the spans of its head.
use Rattle.std.proofs.Common.{◌≡◌, ℕ, ◌<◌, ◌⊎◌, inl, inr, List, [], map, take, length, get_or, sym, ap, ◌∙◌, subst, arith}
use Rattle.std.specs.Prelude.{All, Any}
use Rattle.std.proofs.lemmas.Bool.{cases_lt}
use Rattle.std.proofs.lemmas.List.{length-map, get_or-map, get_or_default, take-map}
use Rattle.http.specs.StatusCode.{IsStatusCode}
use Rattle.http.specs.declared.error.Error.{Error}
use Rattle.http.specs.declared.error.Error.TheVariants as part
use Rattle.http_header.specs.Token.{IsToken, is_token_byte}
use Rattle.http_header.specs.FieldName.{IsFieldName}
use Rattle.http_header.specs.FieldValue.{FieldValue, IsFieldValue}
use Rattle.http_header.specs.HeaderMap.{Entries, append_all, RefusesAppend}
use Rattle.http_uri.specs.Uri.{SpellsNone}
use Rattle.httparse.specs.Grammar.{Field, IsField, lf, RequestHead, ResponseHead, status_code, is_token_byte as is_name_byte, IsToken as IsName, is_value_byte}
use Rattle.httparse.specs.Spans.{header_bytes, name_and_value, IsRequestAt, IsResponseAt}
use Rattle.httparse.specs.declared.spans.HeaderSpan.{HeaderSpan}
use Rattle.httparse.specs.declared.spans.RequestSpans.{RequestSpans}
use Rattle.httparse.specs.declared.spans.ResponseSpans.{ResponseSpans}
use Rattle.httparse.proofs.TrimLemmas.{AllPass-trim_ows}
use Rattle.http1_typed.specs.Parts.{map_at, MapError, RequestError, TargetError, ResponseError}
use Rattle.http_heads.specs.declared.error.HeadError.TheVariants.{Malformed, HeaderMapFull}
use Rattle.http_heads.specs.Failure.{head_error}
use Rattle.http_heads.specs.Heads.{entry_of, HasLongName, Overfill}
use Rattle.http_heads.proofs.HeadLemmas.{appended}

-- the parser and the header library have the same tokens
is_token : (name : List ℕ) → IsName name → IsToken name
unfolding is_token_byte is_name_byte
is_token name token = (token.0, token.1)

-- a fault of a span is a fault of the head's field
fault : (P : List ℕ × List ℕ → Type 0) (head : List ℕ) (spans : List HeaderSpan) (fields : List Field)
    → map (header_bytes head) spans ≡ map name_and_value fields
    → Any (λ s. P (header_bytes head s)) spans → Any (λ f. P (name_and_value f)) fields
fault P head spans fields are (i, s, inside, here, wrong) =
    let none : Field = record { name = []; raw = []; end = lf } in
    let same : length fields ≡ length spans =
    sym (length-map fields name_and_value) ∙ sym (ap length are) ∙ length-map spans (header_bytes head) in
    let within : i < length fields = omega arith in
    let mapped : i < length (map name_and_value fields) = omega (arith, length-map fields name_and_value) in
    let found : header_bytes head s ≡ name_and_value (get_or fields i none) =
    sym (get_or-map (header_bytes head) spans i s (header_bytes head s) inside ∙ ap (header_bytes head) here)
    ∙ ap (λ l. get_or l i (header_bytes head s)) are
    ∙ get_or-map name_and_value fields i none (header_bytes head s) within in
    (i, get_or fields i none, within, get_or_default fields i (get_or fields i none) none within, subst P found wrong)

long_name : (fields : List Field) → All IsField fields → Any (λ f. ¬ (IsFieldName f.name)) fields → Any HasLongName fields
long_name fields all (i, f, inside, here, wrong) =
    let field : IsField f = subst IsField here (all i f inside) in
    elim (cases_lt 65535 (length f.name)) [
      | inl long ↦ (i, f, inside, here, long)
      | inr short ↦ absurd (wrong (is_token f.name field.name, short))
    ]

no_bad_value : (fields : List Field) → All IsField fields → Any (λ f. ¬ (IsFieldValue (name_and_value f).1)) fields → ⊥
no_bad_value fields all (i, f, inside, here, wrong) =
    let field : IsField f = subst IsField here (all i f inside) in
    wrong (AllPass-trim_ows is_value_byte f.raw field.raw)

overfill : (head : List ℕ) (spans : List HeaderSpan) (fields : List Field)
    → map (header_bytes head) spans ≡ map name_and_value fields
    → (count : ℕ) × (name : List ℕ) × RefusesAppend (map_at head (take count spans)) name → Overfill fields
overfill head spans fields are (count, name, full) =
    let cut : map (header_bytes head) (take count spans) ≡ map name_and_value (take count fields) =
    sym (take-map (header_bytes head) count spans) ∙ ap (take count) are ∙ take-map name_and_value count fields in
    record {
      count = count;
      name = name;
      refuses =
          subst (λ (m : Entries FieldValue). RefusesAppend m name)
          (appended head [] (take count spans) ∙ ap (λ l. append_all [] (map entry_of l)) cut) full;
    }

map_is_malformed : (head : List ℕ) (spans : List HeaderSpan) (fields : List Field) (e : Error) → All IsField fields
    → map (header_bytes head) spans ≡ map name_and_value fields
    → MapError head spans e → head_error e ≡ Malformed → Any HasLongName fields
map_is_malformed head spans fields part.StatusCode all are none is = absurd none
map_is_malformed head spans fields part.Method all are none is = absurd none
map_is_malformed head spans fields (part.Uri cause) all are none is = absurd none
map_is_malformed head spans fields (part.UriParts cause) all are none is = absurd none
map_is_malformed head spans fields part.HeaderName all are x is =
    long_name fields all (fault (λ p. ¬ (IsFieldName p.0)) head spans fields are x)
map_is_malformed head spans fields part.HeaderValue all are x is =
    absurd (no_bad_value fields all (fault (λ p. ¬ (IsFieldValue p.1)) head spans fields are x))
map_is_malformed head spans fields part.MaxSizeReached all are x is = cc
map_is_malformed head spans fields part.OutOfMemory all are x is = cc

map_is_full : (head : List ℕ) (spans : List HeaderSpan) (fields : List Field) (e : Error)
    → map (header_bytes head) spans ≡ map name_and_value fields
    → MapError head spans e → head_error e ≡ HeaderMapFull → Overfill fields
map_is_full head spans fields part.StatusCode are none is = absurd none
map_is_full head spans fields part.Method are none is = absurd none
map_is_full head spans fields (part.Uri cause) are none is = absurd none
map_is_full head spans fields (part.UriParts cause) are none is = absurd none
map_is_full head spans fields part.HeaderName are x is = cc
map_is_full head spans fields part.HeaderValue are x is = cc
map_is_full head spans fields part.MaxSizeReached are x is = overfill head spans fields are x
map_is_full head spans fields part.OutOfMemory are x is = cc

pub request_is_malformed : (bytes : List ℕ) (spans : List HeaderSpan) (r : RequestSpans) (h : RequestHead) (e : Error)
    → IsRequestAt bytes spans r h → RequestError bytes spans r e → TargetError bytes r e → head_error e ≡ Malformed
    → SpellsNone h.target ⊎ Any HasLongName h.fields
request_is_malformed bytes spans r h e at (inl x) target is =
    inr (map_is_malformed bytes (take r.headers spans) h.fields e at.reads.0.fields at.fields x is)
request_is_malformed bytes spans r h e at (inr (inl x)) target is =
    absurd (x.1 (subst IsToken (sym at.method) (is_token h.method at.reads.0.method)))
request_is_malformed bytes spans r h e at (inr (inr none)) target is = inl (subst SpellsNone at.path none)

pub request_is_full : (bytes : List ℕ) (spans : List HeaderSpan) (r : RequestSpans) (h : RequestHead) (e : Error)
    → IsRequestAt bytes spans r h → RequestError bytes spans r e → TargetError bytes r e → head_error e ≡ HeaderMapFull
    → Overfill h.fields
request_is_full bytes spans r h e at (inl x) target is = map_is_full bytes (take r.headers spans) h.fields e at.fields x is
request_is_full bytes spans r h e at (inr (inl x)) target is =
    absurd (x.1 (subst IsToken (sym at.method) (is_token h.method at.reads.0.method)))
request_is_full bytes spans r h part.StatusCode at (inr (inr none)) target is = cc
request_is_full bytes spans r h part.Method at (inr (inr none)) target is = cc
request_is_full bytes spans r h (part.Uri cause) at (inr (inr none)) target is = cc
request_is_full bytes spans r h (part.UriParts cause) at (inr (inr none)) target is = cc
request_is_full bytes spans r h part.HeaderName at (inr (inr none)) target is = cc
request_is_full bytes spans r h part.HeaderValue at (inr (inr none)) target is = cc
request_is_full bytes spans r h part.MaxSizeReached at (inr (inr none)) target is = absurd (target none)
request_is_full bytes spans r h part.OutOfMemory at (inr (inr none)) target is = cc

pub response_is_malformed : (bytes : List ℕ) (spans : List HeaderSpan) (r : ResponseSpans) (h : ResponseHead) (e : Error)
    → IsResponseAt bytes spans r h → ResponseError bytes spans r e → head_error e ≡ Malformed
    → ¬ (IsStatusCode (status_code h)) ⊎ Any HasLongName h.fields
response_is_malformed bytes spans r h e at (inl x) is =
    inr (map_is_malformed bytes (take r.headers spans) h.fields e at.reads.0.fields at.fields x is)
response_is_malformed bytes spans r h e at (inr x) is = inl (λ code. x.1 (subst IsStatusCode (sym at.code) code))

pub response_is_full : (bytes : List ℕ) (spans : List HeaderSpan) (r : ResponseSpans) (h : ResponseHead) (e : Error)
    → IsResponseAt bytes spans r h → ResponseError bytes spans r e → head_error e ≡ HeaderMapFull
    → Overfill h.fields
response_is_full bytes spans r h e at (inl x) is = map_is_full bytes (take r.headers spans) h.fields e at.fields x is
response_is_full bytes spans r h e at (inr x) is = absurd (status_is_not_full e x.0 is)
  where
    status_is_not_full : (e : Error) → e ≡ part.StatusCode → head_error e ≡ HeaderMapFull → ⊥
    status_is_not_full e status full =
        let same : Malformed ≡ HeaderMapFull = ap head_error (sym status) ∙ full in cc

-- What is written reads back.
use Rattle.std.proofs.Common.{◌≡◌, ◌↔◌, Some, refl, sym, subst}
use Rattle.http_uri.specs.Uri.{uri_text}
use Rattle.http_cache_fields.specs.Headers.{Headers}
use Rattle.http_cache_json.specs.HeaderObject.{headers_data, IsHeaderObject}
use Rattle.http_cache_rules.specs.Exchange.{Exchange}
use Rattle.http_cache_json.specs.Stored.{StoredForm, stored_form, stored_data, IsStoredOf, IsStored}
use Rattle.http_cache_json.specs.ReadBack.{AreReadable, IsWritable, IsReadBack}
use Rattle.http_cache_json.proofs.FormBackLemmas.{options-back, moment-back}
use Rattle.http_cache_json.proofs.HeadersBackLemmas.{headers_back}
use Rattle.http_cache_json.proofs.MemberLemmas.{IsHeaderObject-unique}
use Rattle.http_cache_json.proofs.SomeLemmas.{some_and, of_some}

abbrev form_of : Exchange → StoredForm
form_of s = record {
  target = uri_text s.target;
  method = s.method;
  status = s.status;
  request = headers_data s.request_headers;
  response = headers_data s.response_headers;
  options = s.options;
  response_time = s.response_time;
}

form_back : (s : Exchange) → IsWritable s → stored_form (stored_data s) ≡ Some (form_of s)
unfolding stored_form stored_data
form_back s h = rw (options-back s.options h.options, moment-back s.response_time h.response_time) refl

is_back : (s t : Exchange) → IsWritable s → IsStoredOf (form_of s) t → IsReadBack s t
is_back s t w h =
    let request = same_back s.request_headers t.request_headers w.request h.request in
    let response = same_back s.response_headers t.response_headers w.response h.response in
    record {
      same = λ i. record {
        target = t.target;
        method = h.method i;
        status = h.status i;
        request_headers = request i;
        response_headers = response i;
        options = h.options i;
        response_time = h.response_time i;
      };
      target = h.target;
    }
  where
    same_back : (g h : Headers) → AreReadable g → IsHeaderObject (headers_data g) h → h ≡ g
    same_back g h readable is = IsHeaderObject-unique (headers_data g) h g is (headers_back g readable)

of_back : (s t : Exchange) → IsWritable s → IsReadBack s t → IsStoredOf (form_of s) t
of_back s t w h =
    subst (IsStoredOf (form_of s)) (sym h.same)
    (record {
      target = h.target;
      method = refl;
      token = w.method;
      status = refl;
      code = w.status;
      request = headers_back s.request_headers w.request;
      response = headers_back s.response_headers w.response;
      options = refl;
      response_time = refl;
    })

-- what is written can be read only as what reads back
pub stored-reads_back : (s t : Exchange) → IsWritable s → IsStored (stored_data s) t ↔ IsReadBack s t
stored-reads_back s t w = (
  λ is. is_back s t w (of_some (stored_form (stored_data s)) (form_of s) (λ form. IsStoredOf form t) (sym
      (form_back s w)) is),
  λ back. some_and (stored_form (stored_data s)) (form_of s) (λ form. IsStoredOf form t) (sym (form_back s w))
      (of_back s t w back),
)

-- A request, its response and the time of receipt.
use Rattle.std.specs.Prelude.{ℕ, ℤ, List, refl}
use Rattle.std.specs.Coded.{Coded, code_by, coded×, coded_list, coded_ℕ, coded_ℤ}
use Rattle.http_uri.specs.declared.uri.Uri.{Uri}
use Rattle.http_uri.specs.contracts.uri.Uri as uri
use Rattle.http_cache_fields.specs.Headers.{Headers, headers_code, headers_of}
use Rattle.http_cache_fields.specs.Directives.{Directive, cache_control}
use Rattle.http_cache_fields.specs.Pragma.{with_pragma}
use Rattle.http_cache_rules.specs.Options.{Options, options_code, options_of}
use Rattle.http_cache_rules.specs.declared.parts.StoredParts.{StoredParts}

-- what a policy keeps; the response time is the nanosecond since 1970 of the receipt
pub record Exchange : Type 0 where
  pub target : Uri
  pub method : List ℕ
  pub status : ℕ
  pub request_headers : Headers
  pub response_headers : Headers
  pub options : Options
  pub response_time : ℤ

abbrev pub exchange_in : StoredParts → Exchange
exchange_in p = record {
  target = p.target;
  method = p.method;
  status = p.status;
  request_headers = headers_of p.request_headers;
  response_headers = headers_of p.response_headers;
  options = options_of p.options;
  response_time = p.response_time.nanosecond;
}

abbrev pub Fields : Type 0
Fields = Uri × (List ℕ × (ℕ × (Headers × (Headers × (Options × ℤ)))))

abbrev pub fields_of : Exchange → Fields
fields_of e = (
  e.target,
  (
    e.method,
    (
      e.status,
      (e.request_headers, (e.response_headers, (e.options, e.response_time))),
    ),
  ),
)

abbrev pub exchange_with : Fields → Exchange
exchange_with t = record {
  target = t.0;
  method = t.1.0;
  status = t.1.1.0;
  request_headers = t.1.1.1.0;
  response_headers = t.1.1.1.1.0;
  options = t.1.1.1.1.1.0;
  response_time = t.1.1.1.1.1.1;
}

abbrev pub fields_code : Coded Fields
fields_code =
    coded× uri.the_row.coded (coded× (coded_list coded_ℕ) (coded× coded_ℕ
    (coded× headers_code (coded× headers_code (coded× options_code coded_ℤ)))))

-- an exchange is stored as the tuple of its fields
abbrev pub exchange_code : Coded Exchange
exchange_code = code_by Fields fields_code fields_of exchange_with (λ _. refl)

-- the response's directives; Pragma counts if there is no Cache-Control (RFC 7234, section 5.4)
abbrev pub stored_directives : Exchange → List Directive
stored_directives e = with_pragma e.response_headers (cache_control e.response_headers)

abbrev pub request_directives : Exchange → List Directive
request_directives e = cache_control e.request_headers

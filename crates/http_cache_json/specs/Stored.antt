-- The stored form of a policy, by its parts.
use Rattle.std.specs.Prelude.{◌≡◌, ℕ, ℤ, List, Option, Some, IsSomeAnd, codes}
use Rattle.http.specs.StatusCode.{IsStatusCode}
use Rattle.http_header.specs.Token.{IsToken}
use Rattle.http_uri.specs.Uri.{Spells, uri_text}
use Rattle.http_cache_rules.specs.Options.{Options}
use Rattle.serde_json.specs.Data.{Data, string, object, no_members, member}
use Rattle.serde_json.specs.Find.{get, as_str}
use Rattle.http_cache_json.specs.Form.{◌>>=◌, given, has_members, whole_of, moment_of, options_of_data}
use Rattle.http_cache_json.specs.FormData.{whole_data, options_data, moment_data}
use Rattle.http_cache_json.specs.HeaderObject.{IsHeaderObject, headers_data}
use Rattle.http_cache_rules.specs.Exchange.{Exchange}

pub record StoredForm : Type 0 where
  pub target : List ℕ
  pub method : List ℕ
  pub status : ℕ
  pub request : Data
  pub response : Data
  pub options : Options
  pub response_time : ℤ

-- an object with only these seven members
unfoldable pub stored_form : Data → Option StoredForm
stored_form d = do
  seven ← given (has_members 7 d) d
  target ← get (codes "uri") seven >>= as_str
  method ← get (codes "method") seven >>= as_str
  status ← get (codes "status") seven >>= whole_of
  request ← get (codes "req") seven
  response ← get (codes "res") seven
  options ← get (codes "opts") seven >>= options_of_data
  response_time ← get (codes "response_time") seven >>= moment_of
  Some (record {
    target = target;
    method = method;
    status = status;
    request = request;
    response = response;
    options = options;
    response_time = response_time;
  })

pub record IsStoredOf (form : StoredForm) (e : Exchange) : Type 0 where
  pub target : Spells form.target e.target
  pub method : e.method ≡ form.method
  pub token : IsToken form.method
  pub status : e.status ≡ form.status
  pub code : IsStatusCode form.status
  pub request : IsHeaderObject form.request e.request_headers
  pub response : IsHeaderObject form.response e.response_headers
  pub options : e.options ≡ form.options
  pub response_time : e.response_time ≡ form.response_time

abbrev pub IsStored : Data → Exchange → Type 0
IsStored d e = IsSomeAnd (stored_form d) (λ form. IsStoredOf form e)

-- in the order of the names; the target as its library prints it
unfoldable pub stored_data : Exchange → Data
stored_data e = object (
    member (codes "method") (string e.method) (
    member (codes "opts") (options_data e.options) (
    member (codes "req") (headers_data e.request_headers) (
    member (codes "res") (headers_data e.response_headers) (
    member (codes "response_time") (moment_data e.response_time) (
    member (codes "status") (whole_data e.status) (
    member (codes "uri") (string (uri_text e.target)) no_members)))))))

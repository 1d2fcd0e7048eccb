-- The exchange of a request and its response.
use Rattle.std.specs.Prelude.{ℤ}
use Rattle.http_cache_rules.specs.Options.{Options}
pub use Rattle.http_cache_rules.specs.Exchange.{Exchange, exchange_code, stored_directives, request_directives}
use Rattle.http_cache_rules.specs.Messages.{RequestSeen, ResponseSeen}

abbrev pub exchange_of : RequestSeen → ResponseSeen → Options → ℤ → Exchange
exchange_of request response options response_time = record {
  target = request.target;
  method = request.method;
  status = response.status;
  request_headers = request.headers;
  response_headers = response.headers;
  options = options;
  response_time = response_time;
}

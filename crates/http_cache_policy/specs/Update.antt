-- What is stored after the origin server has responded (RFC 7234, section 4.3.4).
use Rattle.std.specs.Prelude.{ℤ, Bool, if◌then◌else◌}
use Rattle.http_cache_rules.specs.Selection.{is_selected}
use Rattle.http_cache_rules.specs.Renewed.{renewed_headers}
use Rattle.http_cache_rules.specs.Messages.{RequestSeen, ResponseSeen}
use Rattle.http_cache_policy.specs.Exchange.{Exchange, exchange_of}
use Rattle.http_cache_policy.specs.Kept.{kept_exchange}

-- the response, or the stored one with renewed headers if it is selected
abbrev pub updated_response : Bool → Exchange → ResponseSeen → ResponseSeen
updated_response selected e response = record {
  status = if selected then e.status else response.status;
  headers =
      if selected then renewed_headers e.response_headers response.headers else response.headers;
}

-- the exchange after a response, by whether the stored response is selected
unfoldable pub next_where : Bool → Exchange → RequestSeen → ResponseSeen → ℤ → Exchange
next_where selected e request response response_time =
    kept_exchange
    (exchange_of request (updated_response selected e response) e.options response_time)

-- the response confirms the stored one (RFC 7234, section 4.3.4)
abbrev pub selects : Exchange → ResponseSeen → Bool
selects e response = is_selected e.response_headers response.status response.headers

abbrev pub next_exchange : Exchange → RequestSeen → ResponseSeen → ℤ → Exchange
next_exchange e request response response_time =
    next_where (selects e response) e request response response_time

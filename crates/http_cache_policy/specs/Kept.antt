-- What a policy keeps of an exchange.
use Rattle.http_cache_fields.specs.KeptHeaders.{kept_response}
use Rattle.http_cache_policy.specs.Exchange.{Exchange}

unfoldable pub kept_exchange : Exchange → Exchange
kept_exchange e =
    record e { response_headers = kept_response e.options.ignores_cargo_cult e.response_headers }

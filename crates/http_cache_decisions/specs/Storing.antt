-- Whether a response is worth storing (RFC 9111, sections 3 and 3.3).
use Rattle.std.specs.Prelude.{◌≡◌, ◌⊎◌, ◌==◌, ◌&&◌, ◌||◌, not, nat_le, nat_lt, ℕ, ℤ, Bool, true, false, codes}
use Rattle.std.specs.List.{list_any}
use Rattle.http_cache_fields.specs.Headers.{Headers, values}
use Rattle.http_cache_fields.specs.Text.{is_quote}
use Rattle.http_cache_rules.specs.Storability.{is_storable}
use Rattle.http_cache_policy.specs.Exchange.{Exchange}
use Rattle.http_cache_store.specs.Worth.{can_be_used_again}

-- the status of an interim response, of a part, or of a confirmation
abbrev pub is_never_stored : ℕ → Bool
is_never_stored status = (nat_le 100 status && nat_lt status 200) || status == 206 || status == 304

-- the response is a whole one that may be stored and can be used again
unfoldable pub is_worth_storing : Exchange → ℤ → Bool
is_worth_storing e now = not (is_never_stored e.status) && (is_storable e && can_be_used_again e now)

-- a value of Cache-Control has a double quote
abbrev pub has_quote : Headers → Bool
has_quote h = list_any (list_any is_quote) (values h (codes "cache-control"))

-- the response isn't worth storing, or a directive may be misread within quotes
abbrev pub IsRefused : Exchange → ℤ → Type 0
IsRefused e now = (is_worth_storing e now ≡ false) ⊎ (has_quote e.response_headers ≡ true)

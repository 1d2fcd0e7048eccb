-- The age of a response, and its remaining lifetime (RFC 7234, sections 4.2 and 4.2.3).
use Rattle.std.specs.Prelude.{ℕ, ℤ, ◌+◌, ◌*◌, ◌-◌, ◌-ℤ◌, Bool, min, nat_le}
use Rattle.std.specs.Duration.{max_nanos}
use Rattle.http_cache_rules.specs.Dates.{elapsed_time}
use Rattle.http_cache_rules.specs.ReceivedAge.{received_age_of}
use Rattle.http_cache_policy.specs.Exchange.{Exchange}
use Rattle.http_cache_rules.specs.Freshness.{lifetime}

-- in seconds (RFC 7234, section 5.1)
unfoldable pub received_age : Exchange → ℕ
received_age e = received_age_of e.response_headers

-- in nanoseconds, at most the greatest duration (RFC 7234, section 4.2.3)
unfoldable pub age_at : Exchange → ℤ → ℕ
age_at e now =
    min (received_age e * 1_000_000_000 + elapsed_time (now -ℤ e.response_time)) max_nanos

-- in nanoseconds
unfoldable pub time_to_live_at : Exchange → ℤ → ℕ
time_to_live_at e now = lifetime e - age_at e now

unfoldable pub is_stale_at : Exchange → ℤ → Bool
is_stale_at e now = nat_le (lifetime e) (age_at e now)

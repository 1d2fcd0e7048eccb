-- Whether a stored response is worth keeping.
use Rattle.std.specs.Prelude.{ℤ, Bool, not, ◌&&◌, ◌||◌, codes, bytes_eq}
use Rattle.std.specs.List.{list_any}
use Rattle.http_cache_policy.specs.Age.{is_stale_at}
use Rattle.http_cache_policy.specs.Exchange.{Exchange}
use Rattle.http_cache_fields.specs.Headers.{Headers, contains_key}
use Rattle.http_cache_fields.specs.Pieces.{pieces_under}
use Rattle.http_cache_policy.specs.StaleUse.{forbids_stale}

-- the response has ETag or Last-Modified (RFC 9111, section 4.3.1)
abbrev pub has_validator : Headers → Bool
has_validator h = contains_key h (codes "etag") || contains_key h (codes "last-modified")

-- Vary says `*` (RFC 9111, section 4.1)
abbrev pub varies_by_all : Headers → Bool
varies_by_all h = list_any (bytes_eq (codes "*")) (pieces_under h (codes "vary"))

-- the response can answer some request at the time or later (RFC 9111, sections 4.1 and 4.2.4)
unfoldable pub can_be_used_again : Exchange → ℤ → Bool
can_be_used_again e now =
    not (varies_by_all e.response_headers)
    && (not (is_stale_at e now) || has_validator e.response_headers || not (forbids_stale e))

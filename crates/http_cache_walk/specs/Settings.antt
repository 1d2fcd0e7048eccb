-- How a recording is audited, and whether its export was sanitized.
use Rattle.std.specs.Prelude.{◌||◌, Bool, false, List, codes}
use Rattle.std.specs.List.{list_any}
use Rattle.http_cache_fields.specs.Headers.{contains_key}
use Rattle.http_cache_semantics.specs.Options.{Options, options_of}
use Rattle.http_cache_recording.specs.Entry.{RecordedSeen, ReadingSeen, entry, skipped, AnswerSeen, failed, cached, received}
use Rattle.http_cache_walk.specs.declared.settings.Settings.{Settings}

pub record SettingsSeen : Type 0 where
  pub options : Options
  pub hides_queries : Bool

abbrev pub settings_seen : Settings → SettingsSeen
settings_seen s = record { options = options_of s.options; hides_queries = s.hides_queries }

abbrev pub sets_cookies : AnswerSeen → Bool
sets_cookies failed = false
sets_cookies (cached r) = contains_key r.headers (codes "set-cookie")
sets_cookies (received r) = contains_key r.headers (codes "set-cookie")

-- a sanitized export leaves these headers out
unfoldable pub has_credentials : ReadingSeen → Bool
has_credentials (skipped reason) = false
has_credentials (entry e) =
    contains_key e.headers (codes "cookie") || (contains_key e.headers (codes "authorization") || sets_cookies e.answer)

abbrev pub any_credentials : List RecordedSeen → Bool
any_credentials rs = list_any (λ (r : RecordedSeen). has_credentials r.reading) rs

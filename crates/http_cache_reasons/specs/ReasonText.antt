-- The texts of reasons and of explanations.
use Rattle.std.specs.Prelude.{ℕ, ◌/◌, List, ◌++◌, codes, decimal, Option, Some, None}
use Rattle.http_cache_rules.specs.DisplayText.{freshness_text}
use Rattle.http_cache_reasons.specs.Reason.{ReasonSeen, other_target, other_host, other_of_get_and_head}
use Rattle.http_cache_reasons.specs.Reason.{other_method, varies_by, asks_no_cache, asks_pragma, asks_max_age}
use Rattle.http_cache_reasons.specs.Reason.{asks_min_fresh, is_stale, ExplanationSeen}
use Rattle.http_cache_reasons.specs.declared.reason.StaleReason.{StaleReason}
use Rattle.http_cache_reasons.specs.declared.reason.StaleReason.TheVariants.{NotAsked, NotStorable, MustRevalidate}
use Rattle.http_cache_reasons.specs.declared.reason.StaleReason.TheVariants.{NoCache, TooStale}

abbrev pub stale_text : StaleReason → List ℕ
stale_text NotAsked = codes "stale"
stale_text NotStorable = codes "stale, max-stale but not storable"
stale_text MustRevalidate = codes "stale, max-stale but must-revalidate"
stale_text NoCache = codes "stale, max-stale but no-cache"
stale_text (TooStale seconds) = codes "stale past max-stale=" ++ decimal seconds

abbrev pub reason_text : ReasonSeen → List ℕ
reason_text other_target = codes "other target"
reason_text other_host = codes "other Host"
reason_text other_of_get_and_head = codes "other one of GET and HEAD"
reason_text other_method = codes "other method"
reason_text (varies_by name) = codes "Vary " ++ name
reason_text asks_no_cache = codes "request no-cache"
reason_text asks_pragma = codes "request Pragma no-cache"
reason_text (asks_max_age seconds) = codes "request max-age=" ++ decimal seconds
reason_text (asks_min_fresh seconds) = codes "request min-fresh=" ++ decimal seconds
reason_text (is_stale why) = stale_text why

abbrev pub verdict_text : Option ReasonSeen → List ℕ
verdict_text None = codes "hit"
verdict_text (Some reason) = reason_text reason

-- the age is in whole seconds
abbrev pub explanation_text : ExplanationSeen → List ℕ
explanation_text x =
    verdict_text x.reason
    ++ codes ": age "
    ++ decimal (x.age / 1_000_000_000)
    ++ codes " s, "
    ++ freshness_text x.freshness

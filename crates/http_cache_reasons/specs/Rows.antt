-- Computed examples.
use Rattle.std.specs.Prelude.{◌≡◌, ℕ, [], ◌++◌, true, false, codes, decimal, Option, Some, None, refl}
use Rattle.http_header.specs.Token.{is_token_byte}
use Rattle.http_cache_rules.specs.declared.freshness.LifetimeSource.TheVariants.{MaxAge}
use Rattle.http_cache_reasons.specs.declared.reason.StaleReason.TheVariants.{NotAsked, MustRevalidate}
use Rattle.http_cache_reasons.specs.declared.member.Forward.TheVariants.{Stale, Bypass}
use Rattle.http_cache_reasons.specs.declared.member.CacheOutcome.TheVariants.{Forwarded, Generated}
use Rattle.http_cache_reasons.specs.declared.member.TimeLeft.TheVariants.{Left, Past}
use Rattle.http_cache_reasons.specs.Reason.{ReasonSeen, other_host, other_of_get_and_head, other_method, varies_by}
use Rattle.http_cache_reasons.specs.Reason.{asks_no_cache, is_stale, ExplanationSeen}
use Rattle.http_cache_reasons.specs.Member.{member_text}
use Rattle.http_cache_reasons.specs.CacheStatus.{cache_status}
use Rattle.http_cache_reasons.specs.ReasonText.{explanation_text}

-- max-age=10, at an age
at_age : Option ReasonSeen → ℕ → ExplanationSeen
at_age reason age = record { reason = reason; age = age; freshness = (MaxAge, 10_000_000_000) }

-- ---- before the request is forwarded

row_hit : cache_status (codes "ExampleCache") (at_age None 3_500_000_000)
    ≡ codes "ExampleCache; hit; ttl=" ++ decimal 6 ++ []
unfolding at_age member_text is_token_byte
row_hit = refl

row_stale_hit : cache_status (codes "ExampleCache") (at_age None 10_000_000_001)
    ≡ codes "ExampleCache; hit; ttl=-" ++ decimal 1 ++ []
unfolding at_age member_text is_token_byte
row_stale_hit = refl

row_stale : cache_status (codes "a:b") (at_age (Some (is_stale MustRevalidate)) 10_000_000_001)
    ≡ codes "a:b; fwd=stale; detail=\"must-revalidate\""
unfolding at_age member_text is_token_byte
row_stale = refl

row_asked_of_fresh : cache_status (codes "a") (at_age (Some asks_no_cache) 9_999_999_999)
    ≡ codes "a; fwd=request; detail=\"no-cache\""
unfolding at_age member_text is_token_byte
row_asked_of_fresh = refl

row_asked_of_stale : cache_status (codes "a") (at_age (Some asks_no_cache) 10_000_000_000)
    ≡ codes "a; fwd=stale; detail=\"no-cache\""
unfolding at_age member_text is_token_byte
row_asked_of_stale = refl

row_quoted : cache_status (codes "a\\b") (at_age (Some (varies_by (codes "\"x"))) 0)
    ≡ codes "\"a\\\\b\"; fwd=vary-miss; detail=\"\\\"x\""
unfolding at_age member_text is_token_byte
row_quoted = refl

row_host : cache_status (codes "") (at_age (Some other_host) 0)
    ≡ codes "\"\"; fwd=uri-miss; detail=\"host\""
unfolding at_age member_text is_token_byte
row_host = refl

row_method : cache_status (codes "a") (at_age (Some other_method) 0) ≡ codes "a; fwd=method"
unfolding at_age member_text is_token_byte
row_method = refl

row_head : cache_status (codes "a") (at_age (Some other_of_get_and_head) 0) ≡ codes "a; fwd=miss"
unfolding at_age member_text is_token_byte
row_head = refl

-- ---- after the response, and for one that the cache generates

row_validated : member_text
    (record {
      cache = codes "ExampleCache";
      outcome = Forwarded Stale;
      forward_status = Some 304;
      stored = true;
      left = Some (Left 60);
      detail = None;
    })
    ≡ codes "ExampleCache; fwd=stale; fwd-status=" ++ decimal 304 ++ codes "; stored" ++ (codes "; ttl=" ++ decimal 60) ++ []
unfolding member_text is_token_byte
row_validated = refl

row_bypass : member_text
    (record {
      cache = codes "a";
      outcome = Forwarded Bypass;
      forward_status = None;
      stored = false;
      left = Some (Past 1_000_000_000_000_000);
      detail = Some (codes "b");
    })
    ≡ codes "a; fwd=bypass; detail=\"b\""
unfolding member_text is_token_byte
row_bypass = refl

row_generated : member_text
    (record {
      cache = codes "a";
      outcome = Generated;
      forward_status = None;
      stored = false;
      left = None;
      detail = Some (codes "no answer");
    })
    ≡ codes "a; detail=\"no answer\""
unfolding member_text is_token_byte
row_generated = refl

-- ---- texts

row_text : explanation_text (at_age (Some (is_stale NotAsked)) 12_000_000_000)
    ≡ codes "stale: age " ++ decimal 12 ++ codes " s, " ++ (codes "max-age=" ++ decimal 10)
unfolding at_age
row_text = refl

row_hit_text : explanation_text (at_age None 3_999_999_999)
    ≡ codes "hit: age " ++ decimal 3 ++ codes " s, " ++ (codes "max-age=" ++ decimal 10)
unfolding at_age
row_hit_text = refl

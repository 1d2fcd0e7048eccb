-- The visible state of a session between frames.
use Rattle.std.specs.Prelude.{ℕ, Bool, Option}
use Rattle.http_cache_errands.specs.UnderWay.{id_at, are_validating, validated_at}
use Rattle.http_cache_errands.specs.Void.{is_void}
use Rattle.http_cache_session.specs.declared.session.Session.{Session}

module _ {S : Type 0} where
  abbrev pub store_of : Session S → S
  store_of s = s.client.store

  -- the token of the next request that the caller is asked to send
  abbrev pub next_token : Session S → ℕ
  next_token s = s.under_way.next_token

  abbrev pub id_under_way : Session S → ℕ → Option ℕ
  id_under_way s token = id_at s.under_way.by_token token

  -- the stored response that the request with the token validates
  abbrev pub validated_under_way : Session S → ℕ → Option ℕ
  validated_under_way s token = validated_at s.under_way.by_token token

  -- a request under way validates the stored response
  abbrev pub is_being_validated : Session S → ℕ → Bool
  is_being_validated s id = are_validating id s.under_way.by_token

  -- the request with the token was sent before the last invalidation of its target (RFC 9111, section 4.4)
  abbrev pub is_outdated : Session S → ℕ → Bool
  is_outdated s token = is_void s.invalidations s.under_way.by_token token

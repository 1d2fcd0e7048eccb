-- Which requests may be older than an invalidation of their target (RFC 9111, section 4.4).
use Rattle.std.specs.Prelude.{ℕ, List, String, nat_le, unwrap_or, if◌then◌else◌}
use Rattle.std.specs.BTreeMap.{BTreeMap, get_by_text}

module _ {A : Type 0} where
  -- the token for a target's text, or 0
  abbrev pub token_at : BTreeMap (String A) ℕ → List ℕ → ℕ
  token_at by_text text = unwrap_or (get_by_text by_text text) 0

  -- a request for the target with a lower token may be older than its invalidation: the greater of
  -- the token for every target and the one for its text
  abbrev pub last_of : ℕ → BTreeMap (String A) ℕ → List ℕ → ℕ
  last_of floor by_text text =
      let token = token_at by_text text in if nat_le floor token then token else floor

-- What the reply to a frame says of what is stored and under way.
use Rattle.std.specs.Prelude.{◌≡◌, ◌≢◌, ◌+◌, ℕ, Bool, true, false, Option, Some, None, is_some, IfSome}
use Rattle.http_cache_frames.specs.declared.reply.Reply.{Reply}
use Rattle.http_cache_wire.specs.Wire.{given_token, later_check, reply_id, waits_for}
use Rattle.std.specs.Option.{option_map_or}
use Rattle.http_cache_client.specs.declared.tokens.Validation.{Validation}
use Rattle.http_cache_errands.specs.UnderWay.{ByToken, Changes, KeepsIds, are_validating}
use Rattle.http_cache_errands.specs.declared.errands.UnderWays.{UnderWays}

-- a reply assigns the next token or none, and each token is assigned once
abbrev pub GivesNext : Option ℕ → ℕ → ℕ → Type 0
GivesNext None before after = after ≡ before
GivesNext (Some token) before after = (token ≡ before) × (after ≡ before + 1)

-- no token is assigned, and the requests under way are unchanged
abbrev pub KeepsUnderWay : UnderWays → UnderWays → Type 0
KeepsUnderWay before after =
    (after.next_token ≡ before.next_token) × KeepsIds before.by_token after.by_token

-- the request with the token is over, and the reply has its id; no other token changes, except one
-- that the reply assigns
abbrev pub Ends : ℕ → Reply → (ℕ → Option ℕ) → (ℕ → Option ℕ) → Type 0
Ends token r before after =
    (reply_id r ≡ before token) × (is_some (before token) ≡ true) × (after token ≡ None)
    × ((other : ℕ) → other ≢ token → given_token r ≢ Some other → after other ≡ before other)

-- an assigned token belongs to a request with this id; without one, the requests under way are
-- unchanged
abbrev pub AddsGiven : Option ℕ → ℕ → UnderWays → UnderWays → Type 0
AddsGiven None id before after = KeepsUnderWay before after
AddsGiven (Some token) id before after =
    (token ≡ before.next_token) × (after.next_token ≡ before.next_token + 1)
    × Changes before.by_token token (Some id) after.by_token

-- a reply that says to wait names a request under way
abbrev pub NamesUnderWay : Reply → (ℕ → Option ℕ) → Type 0
NamesUnderWay r before = IfSome (waits_for r) (λ token. is_some (before token) ≡ true)

-- a validation to send after a stale answer is the only one of its stored response
abbrev pub IsOnlyCheck : Reply → (ℕ → Bool) → (ℕ → Option ℕ) → Type 0
IsOnlyCheck r are_validated validated =
    IfSome (later_check r) (λ token. (id : ℕ) → validated token ≡ Some id → are_validated id ≡ false)

-- a request under way validates the same stored response
abbrev pub is_validated : Validation → ByToken → Bool
is_validated check requests = option_map_or (λ id. are_validating id.0 requests) check.id false

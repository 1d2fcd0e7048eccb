-- The stored response that stands in for a failed origin server (RFC 5861, section 4).
use Rattle.std.specs.Prelude.{◌≡◌, ◌⊎◌, ◌&&◌, nat_le, nat_lt, ℕ, ℤ, Bool, true, false, List, Option, Some, None}
use Rattle.http_cache_decisions.specs.Asking.{incoming_seen}
use Rattle.http_cache_decisions.specs.declared.asking.Incoming.{Incoming}
use Rattle.http_cache_store.specs.declared.store.ResponseId.{ResponseId}
use Rattle.http_cache_store.specs.declared.store.StoredResponse.{StoredResponse}
use Rattle.http_cache_decisions.specs.Judge.{of_id, may_be_used_on_error}
use Rattle.http_cache_decisions.specs.Reply.{IsReplyIfAny}
use Rattle.http_cache_decisions.specs.declared.reply.Reply.{Reply}

-- the stored response that has the id, if its stale use is allowed; else none
abbrev pub IsStaleReplyOf : Incoming → Option StoredResponse → ℤ → Option Reply → Type 0
IsStaleReplyOf i None now reply = reply ≡ None
IsStaleReplyOf i (Some one) now reply =
    ((may_be_used_on_error (incoming_seen i) now one.policy ≡ true)
    × IsReplyIfAny i.request.now one.id.0 one.policy one.body now reply)
    ⊎ ((may_be_used_on_error (incoming_seen i) now one.policy ≡ false) × (reply ≡ None))

abbrev pub IsStaleReply : Incoming → ResponseId → List StoredResponse → ℤ → Option Reply → Type 0
IsStaleReply i id stored now = IsStaleReplyOf i (of_id id stored) now

-- a status of 500 to 599
abbrev pub is_server_error : ℕ → Bool
is_server_error status = nat_le 500 status && nat_lt status 600

-- How the parts of `ask` fit together: what is planned for a request that no stored response may
-- answer without validation, and how it is carried out.
use Rattle.std.specs.Prelude.{◌≡◌, ◌⊎◌, ⊤, ℕ, ℤ, Bool, true, false, List, [], Option, Some, None}
use Rattle.http.specs.Response.{head_of, body_of}
use Rattle.http.specs.declared.request.Request.{Request}
use Rattle.http.specs.declared.response.Response.{Response}
use Rattle.http_cache_rules.specs.Messages.{RequestSeen}
use Rattle.http_cache_decisions.specs.Outgoing.{RefusesValidators}
use Rattle.http_cache_store.specs.Worth.{has_validator}
use Rattle.http_cache_store.specs.Store.{StoredSeen, has_id, stored_mark}
use Rattle.http_cache_store.specs.declared.store.StoredResponse.{StoredResponse}
use Rattle.http_cache_decisions.specs.Judge.{may_be_used_meanwhile}
use Rattle.http_cache_decisions.specs.Reply.{CannotBeSent, IsReply, IsReplyIfAny}
use Rattle.http_cache_decisions.specs.Report.{IsMarked}
use Rattle.http_cache_decisions.specs.declared.judge.Selected.{Selected}
use Rattle.http_cache_decisions.specs.declared.judge.Selected.TheVariants as selected
use Rattle.http_cache_decisions.specs.declared.reply.Reply.{Reply}
use Rattle.http_cache_client.specs.Ask.{fields_of}
use Rattle.http_cache_client.specs.Course.{IsForwardOf, IsRefused, IsValidationOf}
use Rattle.http_cache_client.specs.declared.ask.OriginContact.{OriginContact}
use Rattle.http_cache_client.specs.declared.ask.OriginContact.TheVariants.{UseWhile, Validate, Forward}
use Rattle.http_cache_client.specs.declared.tokens.Decision.{Decision}
use Rattle.http_cache_client.specs.declared.tokens.Decision.TheVariants as decision
use Rattle.http_cache_client.specs.declared.tokens.Forwarded.{Forwarded}
use Rattle.http_cache_client.specs.declared.tokens.Validation.{Validation}

-- the request itself is sent, since the stored response has no validator, or there is no room for it
pub record IsUnvalidated (request : Request (List ℕ)) (one : StoredResponse) (f : Forwarded) : Type 0 where
  pub why : (has_validator one.policy.response_headers ≡ false)
      ⊎ RefusesValidators one.policy.response_headers (fields_of request)
  pub own : IsForwardOf (Some one.id.0) false f

pub record IsValidatedBy (request : Request (List ℕ)) (one : StoredResponse) (v : Validation) : Type 0 where
  pub has : has_validator one.policy.response_headers ≡ true
  pub of : IsValidationOf request one.id.0 one.policy v

-- the stored response is validated if that is possible
abbrev pub IsPlainContact : Request (List ℕ) → StoredResponse → OriginContact → Type 0
IsPlainContact request one (UseWhile reply due) = ⊥
IsPlainContact request one (Validate v) = IsValidatedBy request one v
IsPlainContact request one (Forward f) = IsUnvalidated request one f

-- it is used meanwhile if its stale use is allowed and it can be sent
abbrev pub IsContactBy : Request (List ℕ) → RequestSeen → ℤ → StoredResponse → OriginContact → Type 0
IsContactBy request asked now one (UseWhile reply due) =
    (may_be_used_meanwhile asked now one.policy ≡ true)
    × IsReply request one.id.0 one.policy one.body now reply
    × IsValidatedBy request one due
IsContactBy request asked now one (Validate v) =
    ((may_be_used_meanwhile asked now one.policy ≡ false) ⊎ CannotBeSent one.policy)
    × IsValidatedBy request one v
IsContactBy request asked now one (Forward f) = IsUnvalidated request one f

-- the request itself is sent, and no stored response stands in for a failed origin server
abbrev pub IsOwnContact : Bool → OriginContact → Type 0
IsOwnContact is_past_store (UseWhile reply due) = ⊥
IsOwnContact is_past_store (Validate v) = ⊥
IsOwnContact is_past_store (Forward f) = IsForwardOf None is_past_store f

abbrev pub IsContactAfter : Request (List ℕ) → RequestSeen → ℤ → Selected → OriginContact → Type 0
IsContactAfter request asked now (selected.Matching one _) v = IsContactBy request asked now one.now v
IsContactAfter request asked now (selected.Fresh _) v = IsOwnContact false v
IsContactAfter request asked now (selected.Other _) v = IsOwnContact false v
IsContactAfter request asked now selected.Nothing v = IsOwnContact false v

-- the answer by a response that may be used without validation; none if that can't be sent
abbrev pub IsFreshReply : Request (List ℕ) → ℤ → Selected → Option Reply → Type 0
IsFreshReply request now (selected.Fresh one) reply =
    IsReplyIfAny request one.now.id.0 one.now.policy one.now.body now reply
IsFreshReply request now (selected.Matching _ _) reply = reply ≡ None
IsFreshReply request now (selected.Other _) reply = reply ≡ None
IsFreshReply request now selected.Nothing reply = reply ≡ None

-- the bytes that are sent with an answer: none, or the stored body
pub record IsBodyFor (mark : List ℕ → List ℕ) (stored : List StoredSeen) (reply : Reply) (bytes : List ℕ) : Type 0 where
  pub none : reply.needs_body ≡ false → bytes ≡ []
  pub whole : reply.needs_body ≡ true
      → (reply.body ≡ Some bytes) ⊎ (stored_mark reply.id.0 stored ≡ Some (mark bytes))

pub record IsByReply (mark : List ℕ → List ℕ) (stored : List StoredSeen) (reply : Reply) (answer : Response (List ℕ)) : Type 0 where
  pub marked : IsMarked reply.head (head_of answer)
  pub body : IsBodyFor mark stored reply (body_of answer)

-- a call of such a store may fail
abbrev pub MayFail : {S : Type 0} → (S → Type 0) → Type 0
MayFail {S} can_fail = (s : S) × can_fail s

-- the store may fail, or has lost the body of the response that has the id
abbrev pub IsLost : Type 0 → List StoredSeen → ℕ → Type 0
IsLost may_fail lasting id = may_fail ⊎ (has_id id lasting ≡ false)

abbrev pub IsForwarding : OriginContact → Type 0
IsForwarding (UseWhile reply due) = ⊥
IsForwarding (Validate v) = ⊥
IsForwarding (Forward f) = ⊤

module _ (mark : List ℕ → List ℕ) (stored : List StoredSeen) (lost : ℕ → Type 0) where
  -- the stale response is the answer, unless its body is lost
  abbrev pub IsUsedWhile : Reply → Validation → Decision → Type 0
  IsUsedWhile reply due (decision.Answer _) = ⊥
  IsUsedWhile reply due (decision.Stale answer v) = (v ≡ due) × IsByReply mark stored reply answer
  IsUsedWhile reply due (decision.Validate v) = (v ≡ due) × lost reply.id.0
  IsUsedWhile reply due (decision.Forward _) = ⊥

  abbrev pub IsCarriedOut : Bool → OriginContact → Decision → Type 0
  IsCarriedOut true contact done = IsRefused done
  IsCarriedOut false (UseWhile reply due) done = IsUsedWhile reply due done
  IsCarriedOut false (Validate v) done = done ≡ decision.Validate v
  IsCarriedOut false (Forward f) done = done ≡ decision.Forward f

-- What a caching proxy does with a request.
use Rattle.std.specs.Prelude.{◌≡◌, ◌⊎◌, ⊤, ℕ, ℤ, true, false, List, [], length, Option, Some, None}
use Rattle.http.specs.Request.{head_of, body_of}
use Rattle.http.specs.declared.request.Request.{Request}
use Rattle.http.specs.declared.response.Response.{Response as Answer}
use Rattle.http_server.specs.Response.{IsResponse}
use Rattle.http_server.specs.declared.response.Response.{Response}
use Rattle.http_cache_decisions.specs.Asking.{is_looked_up}
use Rattle.http_cache_store.specs.Store.{StoredByTarget, KeepsAll}
use Rattle.http_cache_client.specs.Ask.{fields_of, IsOnlyIfCached}
use Rattle.http_cache_client.specs.Fetch.{Outcome, Sends, HasSent, HasSentBoth, HasSentTwiceAtMost}
use Rattle.http_cache_intermediary.specs.Refusal.{refusal_of}
use Rattle.http_cache_intermediary.specs.Request.{IsForwarded}
use Rattle.http_cache_intermediary.specs.declared.length.Content.TheVariants.{Known}
use Rattle.http_cache_intermediary.specs.declared.refusal.Refusal.{Refusal}
use Rattle.http_cache_proxy.specs.Write.{IsWritten, IsFailure}
use Rattle.http_cache_proxy.specs.declared.failure.Failure.{Failure}
use Rattle.http_cache_proxy.specs.declared.failure.Failure.TheVariants.{Refused, Unsendable, Memory, Lost, Cut}
use Rattle.http_cache_proxy.specs.declared.failure.Failure.TheVariants.{NoResponse}

-- ---- what is sent on to the origin server

-- the request as the proxy forwards it, with the body unchanged
abbrev pub IsSentOnAs : List ℕ → Request (List ℕ) → Request (List ℕ) → Type 0
IsSentOnAs name request forwarded =
    IsForwarded name request (Known (length (body_of request))) (head_of forwarded)
    × (body_of forwarded ≡ body_of request)

module _ {O : Type 0} (sent : Sends O) (before after : O) where
  -- what each reason says of a request that was forwarded
  abbrev pub IsFetchFailure : Request (List ℕ) → Failure → Type 0
  IsFetchFailure forwarded (Refused refusal) = ⊥
  IsFetchFailure forwarded Unsendable = ⊥
  IsFetchFailure forwarded Memory = after ≡ before
  IsFetchFailure forwarded Lost = ⊤
  IsFetchFailure forwarded Cut = HasSent sent before after forwarded None
  IsFetchFailure forwarded NoResponse = HasSent sent before after forwarded None

module _ {O : Type 0} (sent : Sends O) (before after : O) (name : List ℕ) where
  -- nothing was sent, or the forwarded request, or a second one after a 304; nothing was sent for
  -- an `only-if-cached` request
  pub record IsSentOn (request : Request (List ℕ)) : Type 0 where
    pub forwarded : Request (List ℕ)
    pub is_forwarded : IsSentOnAs name request forwarded
    pub twice : HasSentTwiceAtMost sent before after forwarded
    pub only_if_cached : is_looked_up forwarded ≡ true → IsOnlyIfCached (fields_of forwarded) → after ≡ before

  abbrev pub IsSentAtMost : Request (List ℕ) → Type 0
  IsSentAtMost request = (after ≡ before) ⊎ IsSentOn request

  -- the request was forwarded, and no response was received whole
  pub record HasNoAnswer (request : Request (List ℕ)) : Type 0 where
    pub forwarded : Request (List ℕ)
    pub is_forwarded : IsSentOnAs name request forwarded
    pub is_sent : HasSent sent before after forwarded None

  -- what each reason says of a request: 503 is answered only if nothing was sent, 502 and 504 only
  -- if something was sent
  abbrev pub IsCause : Request (List ℕ) → Failure → Type 0
  IsCause request (Refused refusal) = (refusal_of name request false ≡ Some refusal) × (after ≡ before)
  IsCause request Unsendable = after ≡ before
  IsCause request Memory = after ≡ before
  IsCause request Lost = ⊤
  IsCause request Cut = HasNoAnswer request
  IsCause request NoResponse = HasNoAnswer request

  -- two requests were sent, the second after a 304
  abbrev pub IsSentTwice : Request (List ℕ) → Type 0
  IsSentTwice request =
      (forwarded : Request (List ℕ)) × (outcome : Outcome)
      × (IsSentOnAs name request forwarded × HasSentBoth sent before after forwarded outcome)

-- ---- what is stored, and what is answered

module _ {O : Type 0} (sent : Sends O) (before after : O) (name : List ℕ)
    (old : StoredByTarget) (next_before : ℕ) (new : StoredByTarget) (next_after : ℕ) where
  -- what is stored is as it was, unless two requests were sent
  abbrev pub HasKept : Request (List ℕ) → Type 0
  HasKept request = KeepsAll old next_before new next_after ⊎ IsSentTwice sent before after name request

  -- there is no answer, for a reason
  pub record IsUnanswered (time : Option ℤ) (request : Request (List ℕ)) (response : Response) : Type 0 where
    pub cause : Failure
    pub is_cause : IsCause sent before after name request cause
    pub is_failure : IsFailure name (head_of request).method cause time response
    pub kept : HasKept request

  pub record IsAnswered (request : Request (List ℕ)) (response : Response) : Type 0 where
    pub answer : Answer (List ℕ)
    pub is_written : IsWritten name (head_of request).method answer response

  -- at the time that the clock showed, a request is forwarded and answered, or refused; without a
  -- time nothing is stored, and without memory for an answer only the status 500 is sent
  pub record IsProxied {C : Type 0} (shown : C → Option ℤ → C → Type 0) (clock_before clock_after : C)
      (request : Request (List ℕ)) (response : Response) : Type 0 where
    pub time : Option ℤ
    pub is_shown : shown clock_before time clock_after
    pub sent_on : IsSentAtMost sent before after name request
    pub refused : (refusal : Refusal) → refusal_of name request false ≡ Some refusal
        → (after ≡ before) × IsFailure name (head_of request).method (Refused refusal) time response
    pub unstored : time ≡ None → next_after ≡ next_before
    pub answered : IsAnswered request response
        ⊎ (IsUnanswered time request response ⊎ IsResponse 500 [] [] response)

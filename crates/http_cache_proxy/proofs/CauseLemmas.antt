-- Why a request has no answer.
use Rattle.std.proofs.Common.{◌≡◌, ◌⊎◌, inl, inr, ℕ, ℤ, List, Option, None, Some, Result, Ok, Err, IfErr, IsErrOf, OnErr, option_map, refl, subst, []}
use Rattle.http.specs.Request.{head_of}
use Rattle.http.specs.declared.request.Request.{Request}
use Rattle.http.specs.declared.response.Response.{Response as Answer}
use Rattle.http_server.specs.Response.{IsResponse}
use Rattle.http_server.specs.declared.response.Response.{Response}
use Rattle.http_cache_store.specs.Store.{StoredByTarget, KeepsAll}
use Rattle.http_cache_client.specs.Fetch.{Outcome, Sends, HasSentOwn, HasSentBoth, HasNoResponse, IsUnsent}
use Rattle.http_cache_client.specs.declared.origin.FetchError.{FetchError}
use Rattle.http_cache_client.specs.declared.origin.FetchError.TheVariants as fetch
use Rattle.http_cache_proxy.specs.Failure.{failure_of}
use Rattle.http_cache_proxy.specs.Proxy.{IsSentOnAs, IsFetchFailure, IsCause, HasKept}
use Rattle.http_cache_proxy.specs.Proxy.{IsAnswered, IsUnanswered}
use Rattle.http_cache_intermediary.specs.declared.refusal.Refusal.{Refusal}
use Rattle.http_cache_proxy.specs.Write.{IsFailure, IsOutcome}
use Rattle.http_cache_proxy.specs.declared.origin.NoAnswer.{NoAnswer}
use Rattle.http_cache_proxy.specs.declared.origin.NoAnswer.TheVariants as answer
use Rattle.http_cache_proxy.specs.declared.failure.Failure.{Failure}
use Rattle.http_cache_proxy.specs.declared.failure.Failure.TheVariants.{Refused, Unsendable, Memory, Lost, Cut}
use Rattle.http_cache_proxy.specs.declared.failure.Failure.TheVariants.{NoResponse}

-- a request that bypasses the store has no answer because it has no response
pub failure-past : {O E : Type 0} (sent : Sends O) (before after : O) (forwarded : Request (List ℕ))
    (cause : FetchError (NoAnswer E))
    → HasNoResponse (HasSentOwn sent before after forwarded None) cause → IsUnsent (after ≡ before) cause
    → IsFetchFailure sent before after forwarded (failure_of cause)
failure-past sent before after forwarded fetch.Memory absent unsent = unsent
failure-past sent before after forwarded fetch.Lost absent unsent = tt
failure-past sent before after forwarded (fetch.Origin answer.Cut) absent unsent = inl absent
failure-past sent before after forwarded (fetch.Origin (answer.Missing cause)) absent unsent = inl absent

-- what holds of the forwarded request holds of the received one
cause-forwarded : {O : Type 0} (sent : Sends O) (before after : O) (name : List ℕ)
    (request forwarded : Request (List ℕ)) (cause : Failure) → IsSentOnAs name request forwarded
    → IsFetchFailure sent before after forwarded cause → IsCause sent before after name request cause
cause-forwarded sent before after name request forwarded (Refused refusal) is failure = absurd failure
cause-forwarded sent before after name request forwarded Unsendable is failure = absurd failure
cause-forwarded sent before after name request forwarded Memory is failure = failure
cause-forwarded sent before after name request forwarded Lost is failure = tt
cause-forwarded sent before after name request forwarded Cut is failure =
    record { forwarded = forwarded; is_forwarded = is; is_sent = failure }
cause-forwarded sent before after name request forwarded NoResponse is failure =
    record { forwarded = forwarded; is_forwarded = is; is_sent = failure }

pub causes-forwarded : {O A : Type 0} (sent : Sends O) (before after : O) (name : List ℕ)
    (request forwarded : Request (List ℕ)) (r : Result A Failure) → IsSentOnAs name request forwarded
    → IfErr r (IsFetchFailure sent before after forwarded)
    → IfErr r (IsCause sent before after name request)
causes-forwarded sent before after name request forwarded (Ok answer) is failure = failure
causes-forwarded sent before after name request forwarded (Err cause) is failure =
    cause-forwarded sent before after name request forwarded cause is failure

pub kept-forwarded : {O : Type 0} (sent : Sends O) (before after : O) (name : List ℕ)
    (old : StoredByTarget) (next_before : ℕ) (new : StoredByTarget) (next_after : ℕ)
    (request forwarded : Request (List ℕ)) → IsSentOnAs name request forwarded
    → KeepsAll old next_before new next_after
    ⊎ ((outcome : Outcome) × HasSentBoth sent before after forwarded outcome)
    → HasKept sent before after name old next_before new next_after request
kept-forwarded sent before after name old next_before new next_after request forwarded is (inl kept) = inl kept
kept-forwarded sent before after name old next_before new next_after request forwarded is (inr both) =
    inr (forwarded, both.0, (is, both.1))

-- the written response is an answer, or says why there is none
pub answered-by : {O : Type 0} (sent : Sends O) (before after : O) (name : List ℕ)
    (old : StoredByTarget) (next_before : ℕ) (new : StoredByTarget) (next_after : ℕ)
    (time : Option ℤ) (request : Request (List ℕ)) (response : Response) (r : Result (Answer (List ℕ)) Failure)
    → IfErr r (IsCause sent before after name request)
    → OnErr r (HasKept sent before after name old next_before new next_after request)
    → IsOutcome name (head_of request).method r time response
    → IsAnswered sent before after name old next_before new next_after request response
    ⊎ (IsUnanswered sent before after name old next_before new next_after time request response
    ⊎ IsResponse 500 [] [] response)
answered-by sent before after name old nb new na time request response (Ok answer) cause kept (inl written) =
    inl (record { answer = answer; is_written = written })
answered-by sent before after name old nb new na time request response (Ok answer) cause kept (inr bare) =
    inr (inr bare)
answered-by sent before after name old nb new na time request response (Err e) cause kept failure =
    inr (inl (record { cause = e; is_cause = cause; is_failure = failure; kept = kept }))

-- a refused request is answered with its refusal
pub refused-by : {O : Type 0} (before after : O) (name method : List ℕ) (time : Option ℤ)
    (response : Response) (r : Result (Answer (List ℕ)) Failure) (refusal : Refusal)
    → IsErrOf r (Refused refusal) × (after ≡ before) → IsOutcome name method r time response
    → (after ≡ before) × IsFailure name method (Refused refusal) time response
refused-by before after name method time response r refusal is outcome =
    (is.1, subst (λ s. IsOutcome name method s time response) is.0 outcome)

pub none-of : {A B : Type 0} (f : A → B) (o : Option A) → option_map f o ≡ None → o ≡ None
none-of f None e = refl
none-of f (Some a) e = absurd (some≢none (f a) e)
  where
    some≢none : {B : Type 0} (b : B) → Some b ≡ None → ⊥
    some≢none b e = cc

-- The course leaves only sound hits and the 504 as answers that nothing is sent for.
use Rattle.std.proofs.Common.{◌≡◌, ℤ, ℕ, Bool, true, false, List, Option, Some, None, refl, sym, ◌∙◌, inl, inr}
use Rattle.std.specs.Prelude.{not, ◌&&◌, codes}
use Rattle.std.specs.List.{find}
use Rattle.std.proofs.lemmas.Bool.{cases_Bool}
use Rattle.http.specs.declared.request.Request.{Request}
use Rattle.http.specs.declared.response.Response.{Response}
use Rattle.http_cache_fields.specs.Directives.{has}
use Rattle.http_cache_rules.specs.Asks.{asks_of, has_no_cache}
use Rattle.http_cache_rules.specs.Messages.{RequestSeen}
use Rattle.http_cache_rules.specs.Storability.{is_storable}
use Rattle.http_cache_policy.specs.Age.{age_at, is_stale_at}
use Rattle.http_cache_policy.specs.Bound.{bound, is_below, is_fresh_by_bound}
use Rattle.http_cache_policy.specs.Exchange.{Exchange, stored_directives}
use Rattle.http_cache_policy.specs.Lookup.{answers_once_validated, asked_for, may_be_used}
use Rattle.http_cache_policy.specs.Match.{request_matches}
use Rattle.http_cache_policy.specs.StaleUse.{forbids_stale}
use Rattle.http_cache_policy.specs.Verdict.{is_fresh_for}
use Rattle.http_cache_policy.proofs.BoundLemmas.{is_fresh_for-by_bound, is_fresh_for-storable}
use Rattle.http_cache_store.specs.Worth.{has_validator}
use Rattle.http_cache_store.specs.Store.{StoredSeen}
use Rattle.http_cache_decisions.specs.Judge.{may_be_used_meanwhile}
use Rattle.http_cache_decisions.proofs.FindLemmas.{found_among, found_holds}
use Rattle.http_cache_client.specs.Ask.{fields_of, is_only_if_cached}
use Rattle.http_cache_client.specs.Course.{IsAnswerBy, IsCourse, IsDecisionFor, course_among, course_by, to_origin}
use Rattle.http_cache_client.specs.Hit.{IsHit, IsHitIfAnswer}
use Rattle.http_cache_client.specs.declared.tokens.Decision.{Decision}
use Rattle.http_cache_client.specs.declared.tokens.Decision.TheVariants as decision

-- what `may_be_used` says
record Usable (e : Exchange) (asked : RequestSeen) (now : ℤ) : Type 0 where
  matches : request_matches e (asked_for e asked) ≡ true
  unforbidden : has_no_cache (asks_of asked.headers) ≡ false
  young : is_below (bound e (asks_of asked.headers)) (age_at e now) ≡ true
  storable : is_storable e ≡ true
  cacheable : has (stored_directives e) (codes "no-cache") ≡ false
  allowed : is_stale_at e now ≡ true → forbids_stale e ≡ false

both : (a b : Bool) → (a && b) ≡ true → (a ≡ true) × (b ≡ true)
both true b h = (refl, h)
both false b h = absurd (let no : false ≡ true = h in cc)

not_true : (a : Bool) → not a ≡ true → a ≡ false
not_true true h = absurd (let no : false ≡ true = h in cc)
not_true false h = refl

not_both : (a b : Bool) → not (a && b) ≡ true → a ≡ true → b ≡ false
not_both true b h is = not_true b h
not_both false b h is = absurd (let no : false ≡ true = is in cc)

usable : (e : Exchange) (asked : RequestSeen) (now : ℤ) → may_be_used e asked now ≡ true → Usable e asked now
unfolding may_be_used is_fresh_by_bound
usable e asked now is =
    let request = asked_for e asked in
    let parts = both (is_fresh_for e request now) (not (is_stale_at e now && forbids_stale e)) is in
    let by_bound = both (request_matches e request && not (has_no_cache (asks_of asked.headers)))
    (is_below (bound e (asks_of asked.headers)) (age_at e now)) (sym (is_fresh_for-by_bound e request now) ∙ parts.0) in
    let asks = both (request_matches e request) (not (has_no_cache (asks_of asked.headers))) by_bound.0 in
    record {
      matches = asks.0;
      unforbidden = not_true (has_no_cache (asks_of asked.headers)) asks.1;
      young = by_bound.1;
      storable = (is_fresh_for-storable e request now parts.0).0;
      cacheable = (is_fresh_for-storable e request now parts.0).1;
      allowed = not_both (is_stale_at e now) (forbids_stale e) parts.1;
    }

module _ (mark : List ℕ → List ℕ) (lost : ℕ → Type 0) (request : Request (List ℕ)) (now : ℤ) (stored : List StoredSeen)
    (asked : RequestSeen) where
  abbrev Sound : Decision → Type 0
  Sound d = IsHitIfAnswer mark stored request asked now d

  hit_by : (r : StoredSeen) → find (λ (x : StoredSeen). may_be_used x.exchange asked now) stored ≡ Some r
      → (answer : Response (List ℕ)) → IsAnswerBy mark request r now answer
      → IsHit mark stored request asked now answer
  hit_by r is answer by =
      let may = usable r.exchange asked now (found_holds (λ (x : StoredSeen). may_be_used x.exchange asked now) stored r is) in
      record {
        one = r;
        among = found_among (λ (x : StoredSeen). may_be_used x.exchange asked now) stored r is;
        by = by;
        matches = may.matches;
        unforbidden = may.unforbidden;
        young = may.young;
        storable = may.storable;
        cacheable = may.cacheable;
        allowed = may.allowed;
      }

  no_answer : (answering : Option StoredSeen) (answer : Response (List ℕ))
      → IsCourse mark lost request now (to_origin asked now answering) (decision.Answer answer) → ⊥
  no_answer None answer done = done
  no_answer (Some r) answer done =
      elim (cases_Bool (has_validator r.exchange.response_headers)) [
        | inr none ↦ rw none at done
        | inl has_one ↦
            elim (cases_Bool (may_be_used_meanwhile asked now r.exchange)) [
              | inl meanwhile ↦ rw (has_one, meanwhile) at done
              | inr not_now ↦ rw (has_one, not_now) at done
            ]
      ]

  answered : (only : Bool) → only ≡ is_only_if_cached (fields_of request) → (used answering : Option StoredSeen)
      → find (λ (x : StoredSeen). may_be_used x.exchange asked now) stored ≡ used → (answer : Response (List ℕ))
      → IsCourse mark lost request now (course_by asked now only used answering) (decision.Answer answer)
      → Sound (decision.Answer answer)
  answered only said (Some r) answering is answer (inl by) = inl (hit_by r is answer by)
  answered only said (Some r) answering is answer (inr (inl without)) = inr without.1
  answered only said (Some r) answering is answer (inr (inr without)) = inr without.1
  answered true said None answering is answer done = inr (sym said, done)
  answered false said None answering is answer done = absurd (no_answer answering answer done)

  pub hit_of : (only : Bool) → only ≡ is_only_if_cached (fields_of request) → (can_fail : Type 0) → (d : Decision)
      → IsDecisionFor mark lost request now can_fail (course_among stored asked now only) d → Sound d
  hit_of only said can_fail (decision.Answer answer) (inl done) =
      answered only said (find (λ (x : StoredSeen). may_be_used x.exchange asked now) stored)
      (find (λ (x : StoredSeen). answers_once_validated x.exchange asked) stored) refl answer done
  hit_of only said can_fail (decision.Answer answer) (inr without) = inr without.1
  hit_of only said can_fail (decision.Stale answer due) of = tt
  hit_of only said can_fail (decision.Validate v) of = tt
  hit_of only said can_fail (decision.Forward f) of = tt

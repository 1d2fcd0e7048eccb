-- After a 304 the stored status and the body's fields stay, and no name is new. One Age and one
-- Date are sent.
use Rattle.std.proofs.Common.{◌≡◌, true, List, ℕ, ℤ, Result, Ok, Err, IfOk, length, sym, ap, subst, ◌∙◌}
use Rattle.std.proofs.lemmas.Result.{IfOk-weaker}
use Rattle.http_cache_fields.specs.Headers.{headers_of, values, IsAbsent}
use Rattle.http_cache_rules.specs.Renewed.{is_of_body}
use Rattle.http_cache_rules.specs.Messages.{RequestSeen, ResponseSeen}
use Rattle.http_cache_policy.specs.Exchange.{Exchange}
use Rattle.http_cache_policy.specs.Fresh.{HasOneAgeAndDate, RefusesFreshHeaders, HasNoDate}
use Rattle.http_cache_policy.specs.Update.{next_where, next_exchange}
use Rattle.http_cache_policy.specs.Answer.{is_not_modified, policy_in, parts_in}
use Rattle.http_cache_policy.proofs.FreshLemmas.{one_age_and_date}
use Rattle.http_cache_policy.proofs.NextLemmas.{next-status, next-adds_none, next-body}
use Rattle.http_cache_policy.proofs.policy.CachePolicy.after_response.Given as given
use Rattle.http_cache_policy.proofs.policy.CachePolicy.after_response.Goals as goal

both_ok : {T E : Type 0} (r : Result T E) {P Q R : T → Type 0}
    → IfOk r P → IfOk r Q → ((x : T) → P x → Q x → R x) → IfOk r R
both_ok (Ok x) p q k = k x p q
both_ok (Err e) p q k = tt

module _ (g : given.Over) (c : goal.After-answer_with g) where
  abbrev e : Exchange
  e = c.args.self.now

  abbrev request : RequestSeen
  request = g.Req.RequestLike.seen c.args.request.now

  abbrev response : ResponseSeen
  response = g.Res.ResponseLike.seen c.args.response.now

  abbrev now : ℤ
  now = c.args.response_time.nanosecond

  policy-is : c.in_ok-policy.policy ≡ next_exchange e request response now
  policy-is = c.in_ok-policy.ensures.value ∙ ap (λ b. next_where b e request response now) c.is_confirmed_by-selected.ensures

  renewed-is : c.is_confirmed_by-selected.result ≡ true → c.in_ok-policy.policy ≡ next_where true e request response now
  renewed-is h = c.in_ok-policy.ensures.value ∙ ap (λ b. next_where b e request response now) h

  -- what holds of the exchange after a selected response holds of the answer
  where_selected : (P : Exchange → Type 0) → P (next_where true e request response now)
      → IfOk c.answer_with.result (λ answer. is_not_modified answer ≡ true → P (policy_in answer))
  where_selected P p =
      both_ok c.answer_with.result c.answer_with.ensures.selected c.answer_with.ensures.policy
      (λ answer which is yes. subst P (sym (is ∙ renewed-is (sym which ∙ yes))) p)

pub returns-clause-selected : goal.returns-clause-selected
returns-clause-selected g c =
    IfOk-weaker c.answer_with.result _ _ (λ answer is. is ∙ c.is_confirmed_by-selected.ensures) c.answer_with.ensures.selected

pub returns-clause-policy : goal.returns-clause-policy
returns-clause-policy g c =
    IfOk-weaker c.answer_with.result _ _ (λ answer is. is ∙ policy-is g c) c.answer_with.ensures.policy

pub returns-clause-one_age_and_date : goal.returns-clause-one_age_and_date
returns-clause-one_age_and_date g c =
    both_ok c.answer_with.result c.answer_with.ensures.policy c.answer_with.ensures.parts
    (λ answer is fresh.
    subst (λ (p : Exchange). HasOneAgeAndDate p (now g c) (headers_of (parts_in answer).headers)) (sym is)
    (one_age_and_date fresh.headers))

pub returns-clause-keeps_status : goal.returns-clause-keeps_status
returns-clause-keeps_status g c =
    where_selected g c (λ next. next.status ≡ c.args.self.now.status)
    (next-status (e g c) (request g c) (response g c) (now g c))

pub returns-clause-adds_no_name : goal.returns-clause-adds_no_name
returns-clause-adds_no_name g c =
    where_selected g c
    (λ next. (name : List ℕ) → IsAbsent c.args.self.now.response_headers name
    → IsAbsent next.response_headers name)
    (next-adds_none (e g c) (request g c) (response g c) (now g c))

pub returns-clause-keeps_body : goal.returns-clause-keeps_body
returns-clause-keeps_body g c =
    where_selected g c
    (λ next. (name : List ℕ) → is_of_body name ≡ true → length (values c.args.self.now.response_headers name) ≡ 1
    → values next.response_headers name ≡ values c.args.self.now.response_headers name)
    (next-body (e g c) (request g c) (response g c) (now g c))

pub returns-clause-full : goal.returns-clause-full
returns-clause-full g c = λ is.
    subst (λ (p : Exchange). RefusesFreshHeaders p (now g c)) (policy-is g c) (c.answer_with.ensures.full is)

pub returns-clause-unprintable : goal.returns-clause-unprintable
returns-clause-unprintable g c = λ is.
    subst (λ (p : Exchange). HasNoDate p (now g c)) (policy-is g c) (c.answer_with.ensures.unprintable is)

-- A response that is stored can be sent: it has an Age, which no Connection removes, and isn't a 304.
use Rattle.std.proofs.Common.{◌≡◌, ◌≢◌, ℕ, ℤ, Bool, true, false, not, ◌||◌, ◌==◌, ◌&&◌, List, [], cond, bytes_eq, codes}
use Rattle.std.proofs.Common.{Option, None, option_map, unwrap_or, refl, sym, ap, subst, ◌∙◌, inl, inr, nat_le, nat_lt}
use Rattle.std.specs.FinMap as fin
use Rattle.http_cache_fields.specs.Headers.{Headers, contains_key, set, values}
use Rattle.http_cache_fields.specs.KeptHeaders.{with_line_alone, kept_response}
use Rattle.http_cache_fields.specs.CargoCult.{has_cargo_cult, without_cargo_cult}
use Rattle.http_cache_fields.specs.Directives.{cache_control}
use Rattle.http_cache_fields.specs.Pieces.{pieces_under, pieces_of_values}
use Rattle.http_cache_fields.specs.Written.{written_line}
use Rattle.http_cache_fields.proofs.HeadersLemmas.{get-remove_other}
use Rattle.http_cache_rules.specs.Filter.{has_some, is_listed}
use Rattle.http_cache_rules.specs.Forwarding.{connection_fields, forwarded_headers, without_named}
use Rattle.http_cache_rules.specs.Joined.{joined_headers, joined_values}
use Rattle.http_cache_rules.specs.Options.{Options}
use Rattle.http_cache_rules.specs.Storability.{is_storable}
use Rattle.http_cache_rules.proofs.FilterLemmas.{get-with_values}
use Rattle.http_cache_rules.proofs.ForwardingLemmas.{get-without_named}
use Rattle.http_cache_policy.specs.Exchange.{Exchange}
use Rattle.http_cache_policy.specs.Kept.{kept_exchange}
use Rattle.http_cache_policy.specs.ResponseAt.{RefusesAge}
use Rattle.http_cache_store.specs.Worth.{can_be_used_again}
use Rattle.http_cache_store.specs.declared.store.ResponseId.{ResponseId}
use Rattle.http_cache_decisions.specs.Plan.{IsPolicyOf, IsPlannedBy, CanSendPut}
use Rattle.http_cache_decisions.specs.Reply.{CannotBeSent}
use Rattle.http_cache_decisions.specs.StoredHead.{IsStoredHead, is_adjusted, with_cache_status}
use Rattle.http_cache_decisions.specs.Storing.{is_never_stored, is_worth_storing}
use Rattle.http_cache_decisions.specs.declared.plan.Arrived.{Arrived}
use Rattle.http_cache_decisions.specs.declared.plan.Change.{Change}
use Rattle.http_cache_decisions.specs.declared.plan.Change.TheVariants.{Nothing, Put, Renew, Remove, RemoveTargets}
use Rattle.http_cache_decisions.proofs.HeadLemmas.{KeepsOthers-set, and-left, or-false}
use Rattle.http_cache_decisions.proofs.PlanLemmas.{uncut}

abbrev Lines : Type 0
Lines = Option (List (List ℕ))

nothing : (b : Bool) → cond {A = Lines} b None None ≡ None
nothing true = refl
nothing false = refl

-- Connection is never stored.

forwarded-connection : (h : Headers) → fin.get (forwarded_headers h) (codes "connection") ≡ None
unfolding forwarded_headers
forwarded-connection h =
    let listed = pieces_under h (codes "connection") in
    let rest = without_named connection_fields h in
    get-without_named listed rest (codes "connection")
    ∙ ap (λ (o : Lines). cond (not (is_listed listed (codes "connection"))) o None)
    (get-without_named connection_fields h (codes "connection"))
    ∙ nothing (not (is_listed listed (codes "connection")))

joined-absent : (h : Headers) (name : List ℕ) → fin.get h name ≡ None → fin.get (joined_headers h) name ≡ None
unfolding joined_headers
joined-absent h name none =
    get-with_values (λ n. joined_values n (values h n)) h name
    ∙ ap (λ (o : Lines). cond (has_some (joined_values name (unwrap_or o [])))
    (option_map (λ _. joined_values name (unwrap_or o [])) o) None) none

module _ (sent received : ℤ) (h stored : Headers) (is : IsStoredHead sent received h stored) where
  stored-connection : fin.get stored (codes "connection") ≡ None
  unfolding is_adjusted
  stored-connection =
      is.others (codes "connection") refl
      ∙ joined-absent (forwarded_headers h) (codes "connection") (forwarded-connection h)

-- Neither Cache-Status nor what the library keeps changes Age and Connection.

marked-other : (h : Headers) (name : List ℕ) → bytes_eq (codes "cache-status") name ≡ false
    → fin.get (with_cache_status h) name ≡ fin.get h name
marked-other h name apart = by (contains_key h (codes "cache-status"))
  where
    by : (b : Bool) → fin.get (cond b h (set h (codes "cache-status") [])) name ≡ fin.get h name
    by true = refl
    by false = KeepsOthers-set h (codes "cache-status") [] name apart

kept-other : (ignores : Bool) (h : Headers) (name : List ℕ) → bytes_eq (codes "cache-control") name ≡ false
    → bytes_eq (codes "expires") name ≡ false → bytes_eq (codes "pragma") name ≡ false
    → fin.get (kept_response ignores h) name ≡ fin.get h name
kept-other ignores h name control expires pragma = by (ignores && has_cargo_cult (cache_control h))
  where
    line : List ℕ
    line = written_line (without_cargo_cult (cache_control h))

    by : (b : Bool) → fin.get (cond b (with_line_alone h line) h) name ≡ fin.get h name
    by true =
        let lined = set h (codes "cache-control") line in
        get-remove_other (fin.remove lined (codes "expires")) (codes "pragma") name pragma
        ∙ get-remove_other lined (codes "expires") name expires
        ∙ KeepsOthers-set h (codes "cache-control") line name control
    by false = refl

-- without Connection an Age is sent
forwarded-age : (h : Headers) → fin.get h (codes "connection") ≡ None
    → fin.get (forwarded_headers h) (codes "age") ≡ fin.get h (codes "age")
unfolding forwarded_headers
forwarded-age h none =
    let rest = without_named connection_fields h in
    get-without_named (pieces_under h (codes "connection")) rest (codes "age")
    ∙ ap (λ (o : Lines). cond (not (is_listed (pieces_of_values (unwrap_or o [])) (codes "age"))) (fin.get rest (codes "age")) None)
    none
    ∙ get-without_named connection_fields h (codes "age")

module _ (a : Arrived) (options : Options) (policy : Exchange) (of : IsPolicyOf a options policy) where
  response : policy.response_headers ≡ kept_response options.ignores_cargo_cult of.head
  unfolding kept_exchange
  response = ap (λ (e : Exchange). e.response_headers) of.is

  same : (name : List ℕ) → bytes_eq (codes "cache-control") name ≡ false → bytes_eq (codes "expires") name ≡ false
      → bytes_eq (codes "pragma") name ≡ false → bytes_eq (codes "cache-status") name ≡ false
      → fin.get policy.response_headers name ≡ fin.get of.is_head.stored name
  same name control expires pragma marked =
      ap (λ h. fin.get h name) response
      ∙ kept-other options.ignores_cargo_cult of.head name control expires pragma
      ∙ ap (λ h. fin.get h name) of.is_head.is
      ∙ marked-other of.is_head.stored name marked

  has-age : ¬ (RefusesAge policy)
  unfolding RefusesAge
  has-age refused =
      let none : fin.get policy.response_headers (codes "connection") ≡ None =
      same (codes "connection") refl refl refl refl
      ∙ stored-connection a.times.now.sent.nanosecond a.times.now.received.nanosecond _ of.is_head.stored of.is_head.of in
      let no = sym (same (codes "age") refl refl refl refl ∙ of.is_head.of.age)
      ∙ sym (forwarded-age policy.response_headers none) ∙ refused.0 in
      cc

  no-304 : (now : ℤ) → is_worth_storing policy now ≡ true → policy.status ≢ 304
  unfolding is_worth_storing
  no-304 now worth status =
      let whole = uncut (is_never_stored policy.status)
      (and-left (not (is_never_stored policy.status)) (is_storable policy && can_be_used_again policy now) worth) in
      let other : policy.status == 304 ≡ false =
      (or-false ((nat_le 100 policy.status && nat_lt policy.status 200) || policy.status == 206) (policy.status == 304)
      whole).1 in
      let no : true ≡ false = sym (ap (λ (n : ℕ). n == 304) status) ∙ other in
      cc

  pub can-be-sent : (now : ℤ) → is_worth_storing policy now ≡ true → ¬ (CannotBeSent policy)
  can-be-sent now worth cannot = elim cannot [ inl refused ↦ has-age refused | inr status ↦ no-304 now worth status ]

  pub CanSendPut-planned : (gone : List ResponseId) (change : Change) → IsPlannedBy a gone policy change → CanSendPut change
  CanSendPut-planned gone Nothing by = tt
  CanSendPut-planned gone (Put target ids put body) by =
      subst (λ (e : Exchange). ¬ (CannotBeSent e)) (sym by.1)
      (can-be-sent a.times.now.received.nanosecond by.2.worth)
  CanSendPut-planned gone (Renew target ids id new) by = tt
  CanSendPut-planned gone (Remove target ids) by = tt
  CanSendPut-planned gone (RemoveTargets targets) by = tt

-- The exchange after a 304.
use Rattle.std.proofs.Common.{◌≡◌, ◌∙◌, ℕ, ℤ, true, false, List, length, codes}
use Rattle.std.proofs.Common.{bytes_eq, None, inl, inr, refl, sym, ap, true≢false}
use Rattle.std.specs.FinMap as fin
use Rattle.std.proofs.lemmas.Bool.{cases_Bool}
use Rattle.std.proofs.lemmas.Slice.Eq.{bytes_eq-Decides}
use Rattle.http_cache_fields.specs.Headers.{values}
use Rattle.http_cache_fields.proofs.KeptLemmas.{kept_response-adds_none, kept_response-other}
use Rattle.http_cache_rules.specs.Renewed.{is_of_body, renewed_headers}
use Rattle.http_cache_rules.proofs.UpdateLemmas.{renewed_headers-adds_none, renewed_headers-body}
use Rattle.http_cache_rules.specs.Messages.{RequestSeen, ResponseSeen}
use Rattle.http_cache_policy.specs.Exchange.{Exchange}
use Rattle.http_cache_policy.specs.Kept.{kept_exchange}
use Rattle.http_cache_policy.specs.Update.{next_where}

apart_from_body : (name other : List ℕ) → is_of_body other ≡ false → is_of_body name ≡ true
    → bytes_eq other name ≡ false
apart_from_body name other out body =
    elim (cases_Bool (bytes_eq other name)) [
      | inl same ↦ absurd (true≢false (sym body ∙ ap is_of_body (sym ((bytes_eq-Decides other name).0 same)) ∙ out))
      | inr f ↦ f
    ]

module _ (e : Exchange) (request : RequestSeen) (response : ResponseSeen) (response_time : ℤ) where
  abbrev pub renewed_exchange : Exchange
  renewed_exchange = next_where true e request response response_time

  pub next-status : renewed_exchange.status ≡ e.status
  unfolding next_where kept_exchange
  next-status = refl

  pub next-adds_none : (name : List ℕ) → fin.get e.response_headers name ≡ None
      → fin.get renewed_exchange.response_headers name ≡ None
  unfolding next_where kept_exchange
  next-adds_none name none =
      kept_response-adds_none e.options.ignores_cargo_cult (renewed_headers e.response_headers response.headers) name
      (renewed_headers-adds_none e.response_headers response.headers name none)

  -- fields that describe the body stay
  pub next-body : (name : List ℕ) → is_of_body name ≡ true → length (values e.response_headers name) ≡ 1
      → values renewed_exchange.response_headers name ≡ values e.response_headers name
  unfolding next_where kept_exchange is_of_body
  next-body name body one =
      kept_response-other e.options.ignores_cargo_cult (renewed_headers e.response_headers response.headers) name
      (apart_from_body name (codes "cache-control") refl body)
      (apart_from_body name (codes "expires") refl body)
      (apart_from_body name (codes "pragma") refl body)
      ∙ renewed_headers-body e.response_headers response.headers name body one

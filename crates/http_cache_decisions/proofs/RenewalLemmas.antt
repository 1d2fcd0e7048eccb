-- A renewal, or none only if no answer can be made.
use Rattle.std.proofs.Common.{◌≡◌, true, Option, Some, None, IfSome, refl, inr}
use Rattle.http_cache_rules.specs.Options.{Options}
use Rattle.http_cache_policy.specs.Exchange.{Exchange}
use Rattle.http_cache_store.specs.declared.store.StoredResponse.{StoredResponse}
use Rattle.http_cache_decisions.specs.Renewal.{IsRenewal, IsRenewalIfAny, IsRenewedPolicy, is_confirmed}
use Rattle.http_cache_decisions.specs.Reply.{CannotBeSent}
use Rattle.http_cache_decisions.specs.declared.plan.Arrived.{Arrived}
use Rattle.http_cache_decisions.specs.declared.renewal.Renewal.{Renewal}

pub renewal-if-any : (a : Arrived) (one : StoredResponse) (options : Options) (policy : Exchange) → is_confirmed a one ≡ true
    → IsRenewedPolicy a one.policy options policy → (r : Option Renewal) → IfSome r (IsRenewal a one options)
    → (r ≡ None → CannotBeSent policy) → IsRenewalIfAny a options (Some one) r
renewal-if-any a one options policy confirmed of None is unsent = inr (inr (policy, of, unsent refl))
renewal-if-any a one options policy confirmed of (Some r) is unsent = (confirmed, is)

-- Only a 304 that confirms the response renews it.
use Rattle.std.proofs.Common.{◌≡◌, true, Option, Some, None, sym, subst, inl, inr, rules}
use Rattle.http_cache_rules.specs.Options.{options_of}
use Rattle.http_cache_store.specs.declared.store.StoredResponse.{StoredResponse}
use Rattle.http_cache_decisions.specs.Judge.{of_id}
use Rattle.http_cache_decisions.specs.Renewal.{IsRenewalIfAny, is_confirmed}
use Rattle.http_cache_decisions.proofs.RenewalLemmas.{renewal-if-any}
use Rattle.http_cache_decisions.proofs.renewal.renewal_of.Goals as goal

pub returns-in_ok-renewal-in-Ok-clause-renewal : goal.returns-in_ok-renewal-in-Ok-clause-renewal
returns-in_ok-renewal-in-Ok-clause-renewal c =
    let a = c.args.arrived.now in
    let one = c.in-Some.one.now in
    let options = options_of c.args.options.now in
    let is : of_id c.args.id c.args.stored.now ≡ Some one = search rules in
    let confirmed : is_confirmed a one ≡ true = search rules in
    subst (λ (o : Option StoredResponse). IsRenewalIfAny a options o c.in_ok-renewal-in-Ok.renewal) (sym is)
    (renewal-if-any a one options c.in-Ok.policy confirmed c.in-Ok.ensures.policy c.in_ok-renewal-in-Ok.renewal
    c.in_ok-renewal-in-Ok.ensures.renewal c.in_ok-renewal-in-Ok.ensures.unsent)

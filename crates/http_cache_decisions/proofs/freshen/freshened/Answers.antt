-- The confirmed response is renewed.
use Rattle.std.proofs.Common.{◌≡◌, true, false, List, Option, Some, sym, subst, ◌∙◌, rules}
use Rattle.http_cache_rules.specs.Options.{options_of}
use Rattle.http_cache_store.specs.declared.store.ResponseId.{ResponseId}
use Rattle.http_cache_store.specs.declared.store.StoredResponse.{StoredResponse}
use Rattle.http_cache_decisions.specs.Freshen.{IsFreshenedBy, concerns_get, confirmed_of, id_of, outdated_ids}
use Rattle.http_cache_decisions.proofs.freshen.freshened.Goals as goal

pub returns-in_ok-change-in-Some-clause-freshened : goal.returns-in_ok-change-in-Some-clause-freshened
returns-in_ok-change-in-Some-clause-freshened c =
    let a = c.args.arrived.now in
    let stored = c.args.stored.now in
    let one = c.in-Some.one.now in
    let options = options_of c.args.options.now in
    let change = c.in_ok-change-in-Some.change in
    let is : confirmed_of a stored ≡ Some one = search rules in
    let concerned : concerns_get a ≡ true = search rules in
    let ids : c.in_ok-outdated-in-Some.outdated.items ≡ outdated_ids a (Some one.id) stored = search rules in
    let by : IsFreshenedBy a options (Some one) (outdated_ids a (Some one.id) stored) (Some change) =
    subst (λ (l : List ResponseId). IsFreshenedBy a options (Some one) l (Some change)) ids c.in_ok-change-in-Some.ensures.by in
    record {
      other = λ apart. absurd (let no : true ≡ false = sym concerned ∙ apart in cc);
      of_get = λ _. subst (λ (o : Option StoredResponse). IsFreshenedBy a options o (outdated_ids a (id_of o) stored) (Some change)) (sym is) by;
    }

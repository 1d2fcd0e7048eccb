-- A request accepts the response if it asks for no validation and the age is below the bound.
use Rattle.std.proofs.Common.{◌≡◌, true, not, ◌&&◌, rules, sym, ap, ◌∙◌}
use Rattle.http_cache_fields.specs.Headers.{headers_of}
use Rattle.http_cache_rules.specs.Asks.{asks_of, asked_directives, has_no_cache}
use Rattle.http_cache_policy.specs.Age.{age_at}
use Rattle.http_cache_policy.specs.Verdict.{meets}
use Rattle.http_cache_policy.specs.Bound.{is_below}
use Rattle.http_cache_policy.proofs.BoundLemmas.{meets-below}
use Rattle.http_cache_policy.proofs.policy.CachePolicy.satisfies_without_revalidation.Goals as goal
use Rattle.http_cache_policy.proofs.policy.CachePolicy.satisfies_without_revalidation.Goals.{then-asked, else-asked}

pub returns-then-not-pragma_forbids : goal.returns-then-not-pragma_forbids
returns-then-not-pragma_forbids c = λ now aged.
    let e = c.args.self.now in
    let asks = asks_of (headers_of c.args.headers.now) in
    let age = age_at e now in
    let forbids : c.if-asked.value ≡ has_no_cache asks = elim c.if-asked.branch [
      | then-asked w ↦ search rules
      | else-asked w ↦ search rules
    ] in
    let taken : true ≡ not (has_no_cache asks) = sym (ap not c.if-not-pragma_forbids.true) ∙ ap not forbids in
    c.is_below.ensures
    ∙ (λ i. is_below (c.bound.ensures asks c.directives_of_request-asked.ensures i) ((c.as_nanos.ensures ∙ aged) i))
    ∙ sym (meets-below e asks age)
    ∙ ap (λ b. b && meets e (asked_directives asks) age) taken

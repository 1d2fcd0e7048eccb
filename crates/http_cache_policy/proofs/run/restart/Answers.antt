-- A restart continues with what reads back. It is malformed only if the printed target isn't one.
use Rattle.std.proofs.Common.{rules, ◌≡◌, Err, refl, sym, ◌∙◌, subst}
use Rattle.serde_json.specs.Data.{Data}
use Rattle.http_cache_fields.specs.declared.error.CacheError.TheVariants.{Malformed}
use Rattle.http_cache_policy.specs.Exchange.{Exchange}
use Rattle.http_cache_policy.specs.Stored.{Reads, with_target}
use Rattle.http_cache_policy.specs.Renewal.{IsRenewalOf}
use Rattle.http_cache_policy.proofs.RenewalLemmas.{renewal-same}
use Rattle.http_cache_policy.proofs.run.restart.Goals as goal

pub returns-clause-step : goal.returns-clause-step
returns-clause-step c =
    let read = c.in_ok-from_value.ensures.reads in (
      refl,
      (
        read.0,
        subst (λ (d : Data). Reads d read.0) c.in_ok-value.ensures.value read.1,
        c.set_policy.ensures ∙ c.in_ok-from_value.ensures.value read.0 read.1,
      ),
    )

pub returns-clause-renews : goal.returns-clause-renews
returns-clause-renews c =
    let read = c.in_ok-from_value.ensures.reads in
    let e = c.args.policy.now in
    let renewed : c.set_policy.new.policy ≡ with_target e read.0.target =
    c.set_policy.ensures
    ∙ c.in_ok-from_value.ensures.value read.0 read.1
    ∙ c.in_ok-value.ensures.restored read.0 read.1 in
    subst (IsRenewalOf e) (sym renewed) (renewal-same e (with_target e read.0.target) refl refl)

pub returns-in_err-from_value-clause-lost : goal.returns-in_err-from_value-clause-lost
returns-in_err-from_value-clause-lost c = λ is target spells.
    let failed : c.from_value.result ≡ Err Malformed = search rules in
    let other : Exchange = with_target c.args.policy.now target in
    c.from_value.ensures.malformed failed other
    ((c.in_ok-value.ensures.reads_back other).1 (record { same = refl; target = spells }))

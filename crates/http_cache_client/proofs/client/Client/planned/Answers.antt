-- The plan is for what a look-up shows.
use Rattle.std.proofs.Common.{◌≡◌, true, Option, Some, None, ap, sym, subst, ◌∙◌, inl, inr, rules}
use Rattle.http_cache_rules.specs.Options.{Options, options_of}
use Rattle.http_cache_rules.specs.declared.options.CacheOptions.{CacheOptions}
use Rattle.http_cache_store.specs.Store.{StoredByTarget, ShowsAll}
use Rattle.http_cache_store.specs.Target.{text_of}
use Rattle.http_cache_decisions.specs.Freshen.{IsFreshened}
use Rattle.http_cache_decisions.specs.Plan.{IsPlan}
use Rattle.http_cache_decisions.specs.declared.plan.Change.{Change}
use Rattle.http_cache_client.proofs.client.Client.planned.Goals as goal

pub returns-in-Some-clause-planned : goal.returns-in-Some-clause-planned
returns-in-Some-clause-planned g c =
    let found = c.found-stored.result.now in
    let text = text_of c.args.target in
    let is_read : c.in_ok-read.field-0 ≡ true = search rules in
    let Shows : StoredByTarget → Type 0 = λ stored. ShowsAll g.S.Store.mark found (stored text) in
    let Freshened : CacheOptions → Option Change → Type 0 = λ o. IsFreshened c.args.arrived.now (options_of o) found in
    let options = c.read.ensures.options in
    inl (record {
      shown = found;
      shows = subst Shows c.in_ok-read.ensures.kept.stored (c.found-stored.ensures (c.in_ok-read.ensures.read is_read));
      is = inl (
        subst (λ (o : CacheOptions). Freshened o (Some c.of.result.change)) options
            (subst (Freshened c.read.new.self.options) (c.in-Some.is ∙ ap Some (sym c.of.ensures.change)) c.in_ok-change.ensures.freshened),
        c.of.ensures.known,
      );
    })

pub returns-clause-planned : goal.returns-clause-planned
returns-clause-planned g c =
    let found = c.found-stored.result.now in
    let text = text_of c.args.target in
    let is_read : c.in_ok-read.field-0 ≡ true = search rules in
    let Shows : StoredByTarget → Type 0 = λ stored. ShowsAll g.S.Store.mark found (stored text) in
    let Freshened : CacheOptions → Option Change → Type 0 = λ o. IsFreshened c.args.arrived.now (options_of o) found in
    let options = c.read.ensures.options in
    let none : c.in_ok-change.field-0 ≡ None = search rules in
    inl (record {
      shown = found;
      shows = subst Shows c.in_ok-read.ensures.kept.stored (c.found-stored.ensures (c.in_ok-read.ensures.read is_read));
      is = inr (
        subst (λ (o : CacheOptions). Freshened o None) options
            (subst (Freshened c.read.new.self.options) none c.in_ok-change.ensures.freshened),
        subst (λ (o : CacheOptions). IsPlan c.args.arrived.now found (options_of o) c.in_ok-plan.plan) options
            c.in_ok-plan.ensures.plan,
      );
    })

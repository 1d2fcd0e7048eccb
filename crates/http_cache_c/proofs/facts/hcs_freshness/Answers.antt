-- The result is about the policy that was read.
use Rattle.std.proofs.Common.{ℕ, ap, ◌∙◌, w32}
use Rattle.std.proofs.lemmas.Int.{to_z-of_z}
use Rattle.http_cache_rules.specs.declared.freshness.LifetimeSource.{LifetimeSource}
use Rattle.http_cache_c.specs.Codes.{source_code}
use Rattle.http_cache_c.proofs.facts.hcs_freshness.Goals as goal

pub returns-in-Ok-clause-value : goal.returns-in-Ok-clause-value
returns-in-Ok-clause-value c = λ _.
    let t = c.in-Ok.ensures.value in (
      t.0,
      t.1,
      (
        to_z-of_z w32 c.code_of_source.result (record { sfits = c.code_of_source.type_inv }) ∙ c.code_of_source.ensures ∙ ap (λ (p : LifetimeSource × ℕ). source_code p.0) t.2,
        c.duration_of.ensures ∙ ap (λ (p : LifetimeSource × ℕ). p.1) t.2,
      ),
    )

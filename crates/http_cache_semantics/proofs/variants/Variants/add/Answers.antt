-- A new first policy changes no choice for a request that it doesn't match.
use Rattle.std.proofs.Common.{rules, ◌≡◌, ◌∷◌, sym, subst}
use Rattle.http_cache_semantics.specs.Variants.{IsPassedOver}
use Rattle.http_cache_semantics.proofs.VariantsLemmas.{passed_over}
use Rattle.http_cache_semantics.proofs.variants.Variants.add.Goals as goal
use Rattle.http_cache_semantics.proofs.variants.Variants.add.Goals.{in-Ok, in-Err}

pub returns-clause-passed_over : goal.returns-clause-passed_over
returns-clause-passed_over c =
    elim c.match-insert.branch [
      | in-Ok w ↦
          let added : c.insert.new.self.items ≡ c.args.policy ∷ c.args.self.now = search rules in
          rw w.result-is
          (subst (IsPassedOver c.args.policy c.args.self.now) (sym added)
          (passed_over c.args.policy c.args.self.now))
      | in-Err w ↦ rw w.result-is tt
    ]

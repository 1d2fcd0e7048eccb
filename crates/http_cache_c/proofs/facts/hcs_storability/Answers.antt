-- The result is about the policy that was read.
use Rattle.std.proofs.Common.{ap, ◌∙◌, w32}
use Rattle.std.proofs.lemmas.Int.{to_z-of_z}
use Rattle.http_cache_c.specs.Codes.{storability_code, obstacle_bits}
use Rattle.http_cache_c.proofs.facts.hcs_storability.Goals as goal

pub returns-in-Ok-clause-value : goal.returns-in-Ok-clause-value
returns-in-Ok-clause-value c = λ _.
    let t = c.in-Ok.ensures.value in
    (t.0, t.1, to_z-of_z w32 c.code_of_storability.result (record { sfits = c.code_of_storability.type_inv }) ∙ c.code_of_storability.ensures ∙ ap storability_code t.2)

pub returns-in-Ok-clause-obstacles : goal.returns-in-Ok-clause-obstacles
returns-in-Ok-clause-obstacles c = λ _.
    let t = c.in-Ok.ensures.value in (t.0, t.1, c.bits_of_storability.ensures ∙ ap obstacle_bits t.2)

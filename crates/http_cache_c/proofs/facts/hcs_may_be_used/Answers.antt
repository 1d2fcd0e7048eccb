-- The result is for the passed time.
use Rattle.std.proofs.Common.{ap, ◌∙◌, w32}
use Rattle.std.proofs.lemmas.Int.{to_z-of_z}
use Rattle.http_cache_semantics.specs.Lookup.{joined_request, may_be_used}
use Rattle.http_cache_semantics.specs.Messages.{request_seen}
use Rattle.http_cache_c.specs.Codes.{bool_code}
use Rattle.http_cache_c.proofs.facts.hcs_may_be_used.Goals as goal

pub returns-in-Ok-clause-value : goal.returns-in-Ok-clause-value
returns-in-Ok-clause-value c = λ _.
    let t = c.in-Ok.ensures.value in (
      t.0,
      t.1,
      (
        t.2.0,
        t.2.1,
        to_z-of_z w32 c.code_of_bool.result (record { sfits = c.code_of_bool.type_inv }) ∙ c.code_of_bool.ensures
            ∙ ap bool_code (t.2.2 ∙ ap (may_be_used t.0 (joined_request (request_seen t.2.0))) c.in-Some.ensures.some),
      ),
    )

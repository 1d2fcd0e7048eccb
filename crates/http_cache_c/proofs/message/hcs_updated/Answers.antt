-- A head has no room for its own cause.
use Rattle.std.proofs.Common.{Err, sym, ap, ◌∙◌, w32}
use Rattle.std.proofs.lemmas.Int.{to_z-of_z}
use Rattle.http_cache_c.proofs.message.hcs_updated.Goals as goal

pub returns-in-Err-clause-full : goal.returns-in-Err-clause-full
returns-in-Err-clause-full c = λ is.
    c.in-Err.ensures.full (ap Err (c.code_of.ensures.full (sym (to_z-of_z w32 c.code_of.result (record { sfits = c.code_of.type_inv })) ∙ is)))

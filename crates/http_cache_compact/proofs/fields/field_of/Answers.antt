use Rattle.http_cache_compact.proofs.ValueLemmas.{two_cuts}
use Rattle.http_cache_compact.proofs.fields.field_of.Goals as goal

pub returns-clause-parts : goal.returns-clause-parts
returns-clause-parts c =
    two_cuts c.args.bytes.now c.in_ok-name.others.now c.in_ok-value.value.now c.in_ok-value.rest.now 6 c.number_2.result
    c.number_4.result c.in_ok-name.ensures.cases.2 c.in_ok-value.ensures.cases.1 c.in_ok-value.ensures.cases.2

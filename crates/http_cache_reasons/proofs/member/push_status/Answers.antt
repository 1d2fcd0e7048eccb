-- The code of the status is written.
use Rattle.std.proofs.Common.{rules, sym}
use Rattle.http_cache_reasons.proofs.member.push_status.Goals as goal

pub returns-clause-text : goal.returns-clause-text
returns-clause-text c =
    let value = c.as_u16-code.ensures.value in
    let written = c.write.ensures.bytes in
    rw (c.in-Some.is, sym value) (search rules)

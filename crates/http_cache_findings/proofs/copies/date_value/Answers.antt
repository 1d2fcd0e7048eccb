use Rattle.std.proofs.Common.{ap, sym, subst}
use Rattle.http_header.specs.FieldValue.{FieldValue}
use Rattle.http_cache_rules.specs.Dates.{IsHttpDate}
use Rattle.http_cache_findings.proofs.copies.date_value.Goals as goal

pub returns-in-Ok : goal.returns-in-Ok
returns-in-Ok c =
    subst (IsHttpDate c.args.at.nanosecond) (sym (ap (λ (v : FieldValue). v.bytes) c.in-Ok.ensures.ok))
    c.in-Some.ensures.text

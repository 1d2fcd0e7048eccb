-- The date is a field value.
use Rattle.std.proofs.Common.{ap, sym, subst, refl}
use Rattle.http_header.specs.FieldValue.{FieldValue}
use Rattle.http_cache_rules.specs.Dates.{IsHttpDate}
use Rattle.http_cache_decisions.proofs.head.date_value.Goals as goal

pub returns-in-Ok : goal.returns-in-Ok
returns-in-Ok c = (
  c.in-Some.ensures.printable.0 refl,
  subst (IsHttpDate c.args.time.nanosecond) (sym (ap (λ (v : FieldValue). v.bytes) c.in-Ok.ensures.ok))
      c.in-Some.ensures.text,
)

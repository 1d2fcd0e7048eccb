-- The text has the parts of the change, or lacks one.
use Rattle.std.proofs.Common.{rules, sym, subst}
use Rattle.http_cache_findings.specs.Change.{IsSplit}
use Rattle.http_cache_findings.proofs.change.change_from_text.Goals as goal

pub returns-in_default-2-clause-cause : goal.returns-in_default-2-clause-cause
returns-in_default-2-clause-cause c = (
  c.in-Some-split_once.name.now,
  c.in-Some-split_once.value.now,
  record {
    pattern = c.in-Some.pattern.now;
    rest = c.in-Some.rest.now;
    front = c.in-Some.ensures.cases;
    back = c.in-Some-split_once.ensures.cases;
  },
  search rules,
)

pub returns-in_default-3-clause-cause : goal.returns-in_default-3-clause-cause
returns-in_default-3-clause-cause c = (
  c.in-Some-split_once.name.now,
  c.in-Some-split_once.value.now,
  record {
    pattern = c.in-Some.pattern.now;
    rest = c.in-Some.rest.now;
    front = c.in-Some.ensures.cases;
    back = c.in-Some-split_once.ensures.cases;
  },
  search rules,
)

pub returns-clause-change : goal.returns-clause-change
returns-clause-change c =
    record {
      rest = c.in-Some.rest.now;
      name = c.in-Some-split_once.name.now;
      value = c.in-Some-split_once.value.now;
      bytes = c.in-Some-3.value.bytes;
      front =
          subst (λ pattern. IsSplit c.args.text.now pattern c.in-Some.rest.now) (sym c.in_ok-from_str.ensures.ok)
          c.in-Some.ensures.cases;
      back = c.in-Some-split_once.ensures.cases;
      is_name = search rules;
      is_value = search rules;
      unless_empty = search rules;
    }

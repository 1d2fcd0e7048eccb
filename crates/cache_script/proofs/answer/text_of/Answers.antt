-- Each stored response that the steps use has an age, and the lines are the outcomes'.
use Rattle.std.proofs.Common.{List, map, string_bytes, ap, sym, subst}
use Rattle.std.specs.List.{AllByRecursion}
use Rattle.http_cache_policy.specs.Steps.{outcome_seen}
use Rattle.http_cache_policy.specs.declared.steps.Outcome.{Outcome}
use Rattle.cache_script.specs.Script.{script_seen}
use Rattle.cache_script.specs.Steps.{script_step_seen}
use Rattle.cache_script.specs.Lines.{first_line, AreLinesAfter, HasAge}
use Rattle.cache_script.proofs.AgeLemmas.{run-has_ages}
use Rattle.cache_script.proofs.JoinLemmas.{output_of}
use Rattle.cache_script.proofs.answer.text_of.Goals as goal

pub lines_of-requires : goal.lines_of-requires
lines_of-requires c =
    let run = c.in_ok-outcomes.ensures.run in
    subst (λ (os : List Outcome). AllByRecursion HasAge (map outcome_seen os))
    (sym c.as_slice-2.ensures.value)
    (run-has_ages c.args.policy.now _ c.in_ok-outcomes.outcomes.items run.0 run.1.run)

pub returns-clause-text : goal.returns-clause-text
returns-clause-text c =
    let run = c.in_ok-outcomes.ensures.run in
    let s = script_seen c.args.script.now in
    let text = string_bytes c.in_ok-lines_of.field-0 in
    output_of s c.args.policy.now _ c.in_ok-outcomes.outcomes.items run.0 text c.requires
    (ap (map script_step_seen) c.as_slice.ensures.value) run.1.run
    (subst (λ (os : List Outcome). AreLinesAfter (map outcome_seen os) (first_line c.args.policy.now s.received) text)
    c.as_slice-2.ensures.value c.in_ok-lines_of.ensures)

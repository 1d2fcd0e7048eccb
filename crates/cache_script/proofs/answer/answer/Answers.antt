-- The text is the script's only output. Except for memory, an error means that its steps stop
-- there.
use Rattle.std.proofs.Common.{rules, string_bytes}
use Rattle.cache_script.specs.Script.{ScriptSeen, script_seen, start_of}
use Rattle.http_cache_policy.specs.RunStops.{RefusesStep, HasUndatedStep, LosesTarget, StopsFor}
use Rattle.cache_script.specs.Output.{IsOnlyOutput}
use Rattle.cache_script.proofs.AnswerLemmas.{script_that}
use Rattle.cache_script.proofs.OutputUniqueLemmas.{IsOutput-unique}
use Rattle.cache_script.proofs.answer.answer.Goals as goal

pub returns-in-Ok-output-clause-found : goal.returns-in-Ok-output-clause-found
returns-in-Ok-output-clause-found c =
    let s = script_seen c.in-Ok.script in
    let text = string_bytes c.in-Ok-output.text in
    let output = c.in-Ok-output.ensures.text in
    script_that (λ (t : ScriptSeen). IsOnlyOutput t text) c.args.bytes.now s c.in-Ok.ensures.found
    (record { output = output; alone = λ other is. IsOutput-unique s other text is output })

pub returns-clause-full : goal.returns-clause-full
returns-clause-full c = λ e.
    script_that (λ s. StopsFor RefusesStep (start_of s) s.steps) c.args.bytes.now
    (script_seen c.in-Ok.script) c.in-Ok.ensures.found (c.in-Err.ensures.full (search rules))

pub returns-clause-unprintable : goal.returns-clause-unprintable
returns-clause-unprintable c = λ e.
    script_that (λ s. StopsFor HasUndatedStep (start_of s) s.steps) c.args.bytes.now
    (script_seen c.in-Ok.script) c.in-Ok.ensures.found (c.in-Err.ensures.unprintable (search rules))

pub returns-clause-malformed : goal.returns-clause-malformed
returns-clause-malformed c = λ e.
    script_that (λ s. StopsFor LosesTarget (start_of s) s.steps) c.args.bytes.now
    (script_seen c.in-Ok.script) c.in-Ok.ensures.found (c.in-Err.ensures.malformed (search rules))

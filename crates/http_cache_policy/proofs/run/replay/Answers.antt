-- The outcomes are the only run of the steps. An error means that a step has no outcome.
use Rattle.std.proofs.Common.{rules, ◌≡◌, ◌<◌, Err, length, map, take, arith}
use Rattle.std.proofs.lemmas.List.{take_all}
use Rattle.http_cache_fields.specs.declared.error.CacheError.TheVariants.{HeaderMapFull, DateNotPrintable, Malformed}
use Rattle.http_cache_policy.specs.Steps.{step_seen}
use Rattle.http_cache_policy.specs.RunStops.{RefusesStep, HasUndatedStep, LosesTarget}
use Rattle.http_cache_json.proofs.ZipLemmas.{up_to_next}
use Rattle.http_cache_policy.proofs.RunLemmas.{run-unique}
use Rattle.http_cache_policy.proofs.RenewalLemmas.{taken-more, taken-renewed}
use Rattle.http_cache_policy.proofs.StopLemmas.{full-no_outcome, undated-no_outcome, stops_at}
use Rattle.http_cache_policy.proofs.run.replay.Goals as goal

pub loop-step-preserved : goal.loop-step-preserved
loop-step-preserved g c =
    let seen = step_seen g.Req.RequestLike.seen g.Res.ResponseLike.seen in
    let steps = c.args.steps.now in
    let lt : c.loop-step.step-index < length steps = omega arith in
    let more =
    taken-more c.args.policy.now (map seen (take c.loop-step.step-index steps)) c.loop-step.outcomes.items
    c.loop-step.current (seen c.step-item.result) c.in_ok-outcome.outcome c.take_step.new.policy
    c.loop-step.invariant c.in_ok-outcome.ensures.step c.in_ok-outcome.ensures.renews in
    let next = up_to_next seen steps c.loop-step.step-index c.step-item.result lt c.step-item.is in
    rw (next, c.in_ok-push.ensures.items) more

pub returns-in_err-outcome-clause-full : goal.returns-in_err-outcome-clause-full
returns-in_err-outcome-clause-full g c = λ e.
    let seen = step_seen g.Req.RequestLike.seen g.Res.ResponseLike.seen in
    let failed : c.take_step.result ≡ Err HeaderMapFull = search rules in
    let cause = c.take_step.ensures.full failed in
    stops_at seen RefusesStep c.args.policy.now c.args.steps.now c.loop-step.step-index c.step-item.result
    c.loop-step.outcomes.items c.loop-step.current (omega arith) c.step-item.is c.loop-step.invariant cause
    (full-no_outcome c.loop-step.current (seen c.step-item.result) cause)

pub returns-in_err-outcome-clause-unprintable : goal.returns-in_err-outcome-clause-unprintable
returns-in_err-outcome-clause-unprintable g c = λ e.
    let seen = step_seen g.Req.RequestLike.seen g.Res.ResponseLike.seen in
    let failed : c.take_step.result ≡ Err DateNotPrintable = search rules in
    let cause = c.take_step.ensures.unprintable failed in
    stops_at seen HasUndatedStep c.args.policy.now c.args.steps.now c.loop-step.step-index c.step-item.result
    c.loop-step.outcomes.items c.loop-step.current (omega arith) c.step-item.is c.loop-step.invariant cause
    (undated-no_outcome c.loop-step.current (seen c.step-item.result) cause)

pub returns-in_err-outcome-clause-malformed : goal.returns-in_err-outcome-clause-malformed
returns-in_err-outcome-clause-malformed g c = λ e.
    let seen = step_seen g.Req.RequestLike.seen g.Res.ResponseLike.seen in
    let failed : c.take_step.result ≡ Err Malformed = search rules in
    stops_at seen LosesTarget c.args.policy.now c.args.steps.now c.loop-step.step-index c.step-item.result
    c.loop-step.outcomes.items c.loop-step.current (omega arith) c.step-item.is c.loop-step.invariant
    (c.take_step.ensures.lost failed) (c.take_step.ensures.stops failed)

pub returns-clause-run : goal.returns-clause-run
returns-clause-run g c =
    let all = take_all c.loop-step.step-index c.args.steps.now c.loop-step-test.false in
    let run = (rw all at c.loop-step.invariant).run in (
      c.loop-step.current,
      record {
        run = run;
        alone = λ others other is.
            run-unique c.args.policy.now _ others c.loop-step.outcomes.items other c.loop-step.current is run;
      },
    )

pub returns-clause-renewed : goal.returns-clause-renewed
returns-clause-renewed g c =
    let all = take_all c.loop-step.step-index c.args.steps.now c.loop-step-test.false in
    taken-renewed c.args.policy.now _ c.loop-step.outcomes.items c.loop-step.current (rw all at c.loop-step.invariant)

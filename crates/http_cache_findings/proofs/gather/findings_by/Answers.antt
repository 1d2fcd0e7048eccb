-- The facts are of the walk, and what is found is with visits if there is a first load.
use Rattle.std.proofs.Common.{sym, subst, map, Option}
use Rattle.std.proofs.lemmas.Result.{IfOk-weaker}
use Rattle.http_cache_recording.specs.Entry.{recorded_seen}
use Rattle.http_cache_walk.specs.Settings.{settings_seen}
use Rattle.http_cache_findings.specs.Findings.{AreFindingsBy}
use Rattle.http_cache_findings.specs.declared.visit.Span.{Span}
use Rattle.http_cache_findings.proofs.gather.findings_by.Goals as goal

pub returns-in-Some : goal.returns-in-Some
returns-in-Some c =
    IfOk-weaker c.found_with.result _ _ (λ made are.
    record {
      target = c.args.target.now;
      facts = c.in_ok-facts.facts;
      are_facts = rw c.as_slice.ensures.value at c.in_ok-facts.ensures;
      are_found =
          subst (λ (s : Option Span). AreFindingsBy s (settings_seen c.args.settings.now)
          (map recorded_seen c.args.recorded.items) c.args.target.now c.in_ok-facts.facts made.0) (sym c.in-Some.is)
          (rw (c.any_credentials-bare.ensures, c.as_slice-2.ensures.value) at are);
    }) c.found_with.ensures

pub returns-in_ok-plain_findings-in-None : goal.returns-in_ok-plain_findings-in-None
returns-in_ok-plain_findings-in-None c =
    record {
      target = c.args.target.now;
      facts = c.in_ok-facts.facts;
      are_facts = rw c.as_slice.ensures.value at c.in_ok-facts.ensures;
      are_found =
          subst (λ (s : Option Span). AreFindingsBy s (settings_seen c.args.settings.now)
          (map recorded_seen c.args.recorded.items) c.args.target.now c.in_ok-facts.facts
          c.in_ok-plain_findings-in-None.field-0) (sym c.in-None.is)
          (rw (c.any_credentials-bare.ensures, c.as_slice-2.ensures.value) at c.in_ok-plain_findings-in-None.ensures);
    }

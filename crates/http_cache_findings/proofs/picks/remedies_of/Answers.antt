-- One more remedy fits its response.
use Rattle.std.proofs.Common.{◌∙◌, sym, ap, subst, List, map, Option, IfSome}
use Rattle.std.specs.List.{All}
use Rattle.std.proofs.lemmas.List.Elements.{All-push}
use Rattle.http_cache_recording.specs.Entry.{recorded_seen}
use Rattle.http_cache_findings.specs.declared.picks.Pick.{Pick}
use Rattle.http_cache_findings.specs.declared.remedy.Remedy.{Remedy}
use Rattle.http_cache_findings.specs.Picks.{IsFitPick, IsFitRemedy}
use Rattle.http_cache_findings.proofs.picks.remedies_of.Goals as goal
use Rattle.http_cache_findings.proofs.picks.remedies_of.Goals.{in-Some+in_ok-remedy_of+in_ok-push, in_default}

pub loop-url-preserved : goal.loop-url-preserved
loop-url-preserved c =
    let rs = map recorded_seen c.args.recorded.now in
    let fits = IsFitRemedy rs c.args.facts.now.sums in
    elim c.match-branch-2.branch [
      | in-Some+in_ok-remedy_of+in_ok-push w ↦
          subst (λ (l : List Remedy). All fits l) (sym (ap (λ v. v.items) w.all-is ∙ w.in_ok-push.ensures.items))
          (All-push fits _ _ c.loop-url.invariant
          (subst (λ (p : Pick). IsFitPick rs c.args.facts.now.sums p) (sym w.in_ok-remedy_of.ensures)
          (subst (λ (o : Option Pick). IfSome o (IsFitPick rs c.args.facts.now.sums)) w.in-Some.is c.in_ok-pick.ensures)))
      | in_default w ↦ subst (λ (l : List Remedy). All fits l) (sym (ap (λ v. v.items) w.all-is)) c.loop-url.invariant
    ]

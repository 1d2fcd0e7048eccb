use Rattle.std.proofs.Common.{Bor, Bool, ◌∙◌, sym, ap, subst, option_map}
use Rattle.std.proofs.lemmas.Option.{IfSome_then}
use Rattle.http_cache_recording.specs.declared.entry.Recorded.{Recorded}
use Rattle.http_cache_recording.specs.Entry.{recorded_seen}
use Rattle.http_cache_findings.specs.Picks.{IsFitWith}
use Rattle.http_cache_findings.proofs.picks.advice_for.Goals as goal

pub returns-in-Some : goal.returns-in-Some
returns-in-Some c =
    let full = recorded_seen c.in-Some.full.now in
    IfSome_then c.advice_by.result c.advice_by.ensures (λ a fit. record {
      recorded = full;
      is_recorded =
          sym c.recorded_at.ensures ∙ ap (option_map (λ (r : Bor Recorded). recorded_seen r.now)) c.in-Some.is;
      is_fit = subst (λ (has : Bool). IsFitWith full has a) c.in_ok-with_credentials.ensures fit;
    })

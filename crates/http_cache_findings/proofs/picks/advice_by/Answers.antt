use Rattle.std.proofs.Common.{Bor, ◌∙◌, sym, ap, refl, option_map}
use Rattle.std.proofs.lemmas.Option.{IfSome_then}
use Rattle.http.specs.declared.response.Parts.{Parts}
use Rattle.http_cache_semantics.specs.Messages.{response_seen}
use Rattle.http_cache_findings.proofs.picks.advice_by.Goals as goal

pub returns : goal.returns
returns c =
    IfSome_then c.advice_of.result c.advice_of.ensures (λ a fit. record {
      response = response_seen c.in_ok-response.response.now;
      shown = _;
      is_response =
          sym c.response_of.ensures ∙ ap (option_map (λ (r : Bor Parts). response_seen r.now)) c.in_ok-response.was;
      credentials = refl;
      is_fit = fit;
    })

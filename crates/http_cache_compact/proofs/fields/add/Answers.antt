-- A field line is added if there is room, and refused only if there is none.
use Rattle.std.proofs.Common.{◌≡◌, rules, sym, ◌∙◌, subst, ap, Err}
use Rattle.http_header.specs.HeaderMap.{RefusesAppend}
use Rattle.http_cache_json.specs.Pairs.{Pair, Fits, with_pair}
use Rattle.http_cache_json.proofs.HeldLemmas.{fits_more, refused_fits}
use Rattle.http_cache_compact.proofs.fields.add.Goals as goal

pub returns-in-Ok-clause-fits : goal.returns-in-Ok-clause-fits
returns-in-Ok-clause-fits c =
    let p : Pair = (c.args.name.now, c.args.value) in
    let same : c.append.new.self ≡ with_pair c.args.headers.now p = search rules in
    subst Fits (sym same) (fits_more c.args.headers.now p
    (λ refuses.
    let refused = c.append.ensures.full.1 (subst (RefusesAppend c.args.headers.now) (sym c.in_ok-name.ensures.ok) refuses) in
    cc (refused, c.in-Ok.is)) c.requires)

pub returns-in-Err-MaxSizeReached-clause-malformed : goal.returns-in-Err-MaxSizeReached-clause-malformed
returns-in-Err-MaxSizeReached-clause-malformed c = λ _ valid fits.
    refused_fits c.args.headers.now (c.args.name.now, c.args.value)
    (subst (RefusesAppend c.args.headers.now) c.in_ok-name.ensures.ok
    (c.append.ensures.full.0 (c.in-Err-MaxSizeReached.is ∙ ap Err c.in-Err-MaxSizeReached.field-0-is))) fits

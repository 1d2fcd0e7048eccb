-- The first fresh policy is chosen, or else the first that matches; others don't count.
use Rattle.std.proofs.Common.{◌≡◌, Some, true, false, sym, ap, ◌∙◌}
use Rattle.http_cache_policy.specs.Answer.{is_fresh}
use Rattle.http_cache_policy.specs.Bound.{is_fresh_by_bound}
use Rattle.http_cache_policy.specs.Match.{request_matches}
use Rattle.http_cache_policy.specs.Verdict.{is_fresh_for}
use Rattle.http_cache_semantics.specs.Variants.{chosen_index}
use Rattle.http_cache_semantics.specs.declared.variants.Choice.TheVariants.{Fresh, Validate, Nothing}
use Rattle.http_cache_semantics.proofs.IndexLemmas.{at_index}
use Rattle.http_cache_semantics.proofs.VariantsLemmas.{fresh-matches, fresh-is}
use Rattle.http_cache_semantics.proofs.VariantsLemmas.{stale-is, stale-matches, unchosen}
use Rattle.http_cache_semantics.proofs.VariantsLemmas.{unmatched-unchosen, same_choice}
use Rattle.http_cache_semantics.proofs.variants.Variants.choose.Goals as goal

pub returns-in_default-clause-order : goal.returns-in_default-clause-order
returns-in_default-clause-order g c =
    let request = g.Req.RequestLike.seen c.args.req.now in
    let now = c.args.now.nanosecond in
    let es = c.args.self.now in
    same_choice es request now Nothing (unchosen request now es (sym c.chosen_index.ensures.value ∙ c.in_default.is))

pub returns-in_err-parts-clause-nothing : goal.returns-in_err-parts-clause-nothing
returns-in_err-parts-clause-nothing g c =
    let request = g.Req.RequestLike.seen c.args.req.now in
    let now = c.args.now.nanosecond in
    let es = c.args.self.now in
    let index = c.in-Some.index in
    let chosen : chosen_index request now es ≡ Some index = sym (sym c.in-Some.is ∙ c.chosen_index.ensures.value) in
    λ unmatched. absurd (unmatched-unchosen request now es index chosen unmatched)

pub returns-in-Fresh-clause-choice : goal.returns-in-Fresh-clause-choice
returns-in-Fresh-clause-choice g c =
    let request = g.Req.RequestLike.seen c.args.req.now in
    let now = c.args.now.nanosecond in
    let es = c.args.self.now in
    let index = c.in-Some.index in
    let chosen : chosen_index request now es ≡ Some index = sym (sym c.in-Some.is ∙ c.chosen_index.ensures.value) in
    let e = c.stored_at.result.now in
    let fresh : is_fresh_for e request now ≡ true = sym c.in_ok-parts.ensures.verdict ∙ ap is_fresh c.in-Fresh.is in
    fresh-is request now es index e c.in-Fresh.parts chosen c.stored_at.ensures fresh
    (rw c.in-Fresh.is at c.in_ok-parts.ensures.fresh)

pub returns-in-Fresh-clause-usable : goal.returns-in-Fresh-clause-usable
returns-in-Fresh-clause-usable g c =
    let request = g.Req.RequestLike.seen c.args.req.now in
    let now = c.args.now.nanosecond in
    let es = c.args.self.now in
    let index = c.in-Some.index in
    let e = c.stored_at.result.now in
    let fresh : is_fresh_for e request now ≡ true = sym c.in_ok-parts.ensures.verdict ∙ ap is_fresh c.in-Fresh.is in
    let below : is_fresh_by_bound e request now ≡ true = sym c.in_ok-parts.ensures.bound ∙ ap is_fresh c.in-Fresh.is in
    at_index (λ e. (request_matches e request ≡ true) × (is_fresh_by_bound e request now ≡ true)) es index e
    c.stored_at.ensures (fresh-matches e request now fresh, below)

pub returns-in-Fresh-clause-order : goal.returns-in-Fresh-clause-order
returns-in-Fresh-clause-order g c =
    let request = g.Req.RequestLike.seen c.args.req.now in
    let now = c.args.now.nanosecond in
    let es = c.args.self.now in
    let index = c.in-Some.index in
    let chosen : chosen_index request now es ≡ Some index = sym (sym c.in-Some.is ∙ c.chosen_index.ensures.value) in
    let e = c.stored_at.result.now in
    let fresh : is_fresh_for e request now ≡ true = sym c.in_ok-parts.ensures.verdict ∙ ap is_fresh c.in-Fresh.is in
    same_choice es request now (Fresh index c.in-Fresh.parts)
    (fresh-is request now es index e c.in-Fresh.parts chosen c.stored_at.ensures fresh
    (rw c.in-Fresh.is at c.in_ok-parts.ensures.fresh))

pub returns-in-Fresh-clause-nothing : goal.returns-in-Fresh-clause-nothing
returns-in-Fresh-clause-nothing g c =
    let request = g.Req.RequestLike.seen c.args.req.now in
    let now = c.args.now.nanosecond in
    let es = c.args.self.now in
    let index = c.in-Some.index in
    let chosen : chosen_index request now es ≡ Some index = sym (sym c.in-Some.is ∙ c.chosen_index.ensures.value) in
    λ unmatched. absurd (unmatched-unchosen request now es index chosen unmatched)

pub returns-in-Stale-clause-choice : goal.returns-in-Stale-clause-choice
returns-in-Stale-clause-choice g c =
    let request = g.Req.RequestLike.seen c.args.req.now in
    let now = c.args.now.nanosecond in
    let es = c.args.self.now in
    let index = c.in-Some.index in
    let chosen : chosen_index request now es ≡ Some index = sym (sym c.in-Some.is ∙ c.chosen_index.ensures.value) in
    let e = c.stored_at.result.now in
    let stale : is_fresh_for e request now ≡ false = sym c.in_ok-parts.ensures.verdict ∙ ap is_fresh c.in-Stale.is in
    stale-is request now es index e c.in-Stale.request chosen c.stored_at.ensures stale
    (rw c.in-Stale.is at c.in_ok-parts.ensures.stale)

pub returns-in-Stale-clause-validates : goal.returns-in-Stale-clause-validates
returns-in-Stale-clause-validates g c =
    let request = g.Req.RequestLike.seen c.args.req.now in
    let now = c.args.now.nanosecond in
    let es = c.args.self.now in
    let index = c.in-Some.index in
    let chosen : chosen_index request now es ≡ Some index = sym (sym c.in-Some.is ∙ c.chosen_index.ensures.value) in
    let e = c.stored_at.result.now in
    let stale : is_fresh_for e request now ≡ false = sym c.in_ok-parts.ensures.verdict ∙ ap is_fresh c.in-Stale.is in
    at_index (λ e. request_matches e request ≡ true) es index e c.stored_at.ensures
    (stale-matches request now es index e chosen c.stored_at.ensures stale)

pub returns-in-Stale-clause-order : goal.returns-in-Stale-clause-order
returns-in-Stale-clause-order g c =
    let request = g.Req.RequestLike.seen c.args.req.now in
    let now = c.args.now.nanosecond in
    let es = c.args.self.now in
    let index = c.in-Some.index in
    let chosen : chosen_index request now es ≡ Some index = sym (sym c.in-Some.is ∙ c.chosen_index.ensures.value) in
    let e = c.stored_at.result.now in
    let stale : is_fresh_for e request now ≡ false = sym c.in_ok-parts.ensures.verdict ∙ ap is_fresh c.in-Stale.is in
    same_choice es request now (Validate index c.in-Stale.request)
    (stale-is request now es index e c.in-Stale.request chosen c.stored_at.ensures stale
    (rw c.in-Stale.is at c.in_ok-parts.ensures.stale))

pub returns-in-Stale-clause-nothing : goal.returns-in-Stale-clause-nothing
returns-in-Stale-clause-nothing g c =
    let request = g.Req.RequestLike.seen c.args.req.now in
    let now = c.args.now.nanosecond in
    let es = c.args.self.now in
    let index = c.in-Some.index in
    let chosen : chosen_index request now es ≡ Some index = sym (sym c.in-Some.is ∙ c.chosen_index.ensures.value) in
    λ unmatched. absurd (unmatched-unchosen request now es index chosen unmatched)

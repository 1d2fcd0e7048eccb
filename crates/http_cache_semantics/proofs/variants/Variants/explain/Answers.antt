-- One policy is explained, or nothing is stored for the target.
use Rattle.std.proofs.Common.{◌≡◌, Some, is_some, is_none, sym, ap, ◌∙◌}
use Rattle.http_cache_semantics.specs.Variants.{explained_index}
use Rattle.http_cache_semantics.proofs.VariantsLemmas.{explained-is, explained-hit, explained-mismatch, unexplained}
use Rattle.http_cache_semantics.proofs.variants.Variants.explain.Goals as goal

pub returns-in_default-clause-value : goal.returns-in_default-clause-value
returns-in_default-clause-value g c =
    let request = g.Req.RequestLike.seen c.args.req.now in
    let now = c.args.now.nanosecond in
    (unexplained request now c.args.self.now (sym c.explained_index.ensures.value ∙ c.in_default.is)).2

pub returns-in_default-clause-hit : goal.returns-in_default-clause-hit
returns-in_default-clause-hit g c =
    let request = g.Req.RequestLike.seen c.args.req.now in
    let now = c.args.now.nanosecond in
    sym (ap is_some (unexplained request now c.args.self.now (sym c.explained_index.ensures.value ∙ c.in_default.is)).0)

pub returns-in_default-clause-mismatch : goal.returns-in_default-clause-mismatch
returns-in_default-clause-mismatch g c =
    let request = g.Req.RequestLike.seen c.args.req.now in
    let now = c.args.now.nanosecond in
    sym (ap is_none (unexplained request now c.args.self.now (sym c.explained_index.ensures.value ∙ c.in_default.is)).1)

pub returns-clause-value : goal.returns-clause-value
returns-clause-value g c =
    let request = g.Req.RequestLike.seen c.args.req.now in
    let now = c.args.now.nanosecond in
    let es = c.args.self.now in
    let index = c.in-Some.index in
    let explained : explained_index request now es ≡ Some index = sym (sym c.in-Some.is ∙ c.explained_index.ensures.value) in
    c.explain.ensures.value ∙ explained-is request now es index c.stored_at.result.now explained c.stored_at.ensures

pub returns-clause-hit : goal.returns-clause-hit
returns-clause-hit g c =
    let request = g.Req.RequestLike.seen c.args.req.now in
    let now = c.args.now.nanosecond in
    let es = c.args.self.now in
    let index = c.in-Some.index in
    let explained : explained_index request now es ≡ Some index = sym (sym c.in-Some.is ∙ c.explained_index.ensures.value) in
    c.explain.ensures.hit ∙ explained-hit request now es index c.stored_at.result.now explained c.stored_at.ensures

pub returns-clause-mismatch : goal.returns-clause-mismatch
returns-clause-mismatch g c =
    let request = g.Req.RequestLike.seen c.args.req.now in
    let now = c.args.now.nanosecond in
    let es = c.args.self.now in
    let index = c.in-Some.index in
    let explained : explained_index request now es ≡ Some index = sym (sym c.in-Some.is ∙ c.explained_index.ensures.value) in
    c.explain.ensures.mismatch ∙ explained-mismatch request now es index c.stored_at.result.now explained c.stored_at.ensures

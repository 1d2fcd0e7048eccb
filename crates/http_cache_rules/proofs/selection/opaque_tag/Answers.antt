-- A tag without a mark of weakness is opaque, and removing a mark doesn't change the opaque tag.
use Rattle.std.proofs.Common.{ap, ◌∙◌}
use Rattle.http_cache_rules.specs.Selection.{opaque_tag}
use Rattle.http_cache_rules.proofs.TagLemmas.{opaque_tag-next, opaque_tag-end}
use Rattle.http_cache_rules.proofs.selection.opaque_tag.Goals as goal

pub loop-after-init : goal.loop-after-init
loop-after-init c = ap opaque_tag c.as_bytes-rest.ensures.value

pub loop-after-preserved : goal.loop-after-preserved
loop-after-preserved c =
    ap opaque_tag c.in-Some.ensures.cases.1 ∙ opaque_tag-next c.loop-after.rest.now c.in-Some.ensures.cases.0
    ∙ c.loop-after.invariant

pub returns : goal.returns
returns c = opaque_tag-end c.loop-after.rest.now c.in_default.ensures.cases ∙ c.loop-after.invariant

-- The sum is stored under the label.
use Rattle.std.proofs.Common.{◌≡◌, ◌∙◌, ◌+◌, ◌-◌, ◌^◌, ap, min, List, ℕ}
use Rattle.http_cache_findings.specs.Counts.{label_of, total_in}
use Rattle.http_cache_findings.proofs.CountsLemmas.{also_one}
use Rattle.http_cache_findings.proofs.counts.Counts.add.Goals as goal

pub returns : goal.returns
returns c =
    let label = label_of c.args.group.now c.args.name.now in
    let looked_up : c.as_str.result.now ≡ label = c.as_str.ensures.value ∙ c.in_ok-label.ensures in
    also_one label c.args.amount c.with_more-count.result c.args.self.now _
    (c.with_more-count.ensures
    ∙ ap (λ (l : List ℕ). min (total_in c.args.self.now l + c.args.amount) (2 ^ 64 - 1)) looked_up)
    (λ key. rw c.in_ok-label.ensures at (c.in_ok-put.ensures key))

-- The facts follow from what was made of the rows.
use Rattle.std.proofs.Common.{◌∙◌, sym, ap, ℕ, List, length, map}
use Rattle.std.proofs.lemmas.List.{length-map}
use Rattle.http_cache_recording.specs.Entry.{recorded_seen}
use Rattle.http_cache_findings.specs.declared.cost.Known.{Known}
use Rattle.http_cache_walk.specs.Row.{row_seen}
use Rattle.http_cache_findings.specs.Urls.{urls_in}
use Rattle.http_cache_findings.proofs.facts.facts_by.Goals as goal

pub returns : goal.returns
returns c =
    record {
      bases = c.in_ok-repeats.bases;
      are_changing = c.in_ok-changing.ensures;
      are_known = c.in_ok-known.ensures;
      are_sums = rw c.as_slice.ensures.value at c.in_ok-sums.ensures;
      are_costs = rw c.as_slice-2.ensures.value at c.in_ok-costs.ensures;
      are_urls =
          c.in_ok-urls.ensures
          ∙ ap (λ (l : List Known). urls_in (length c.args.recorded.now) (map row_seen c.args.rows.now) l)
          c.as_slice-3.ensures.value
          ∙ ap (λ (n : ℕ). urls_in n (map row_seen c.args.rows.now) c.in_ok-known.known.items)
          (sym (length-map c.args.recorded.now recorded_seen));
      are_repeats = rw (c.as_slice-4.ensures.value, c.as_slice-5.ensures.value) at c.in_ok-repeats.ensures;
      is_span = c.span_of-span.ensures;
    }

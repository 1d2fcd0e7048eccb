-- The recording is walked as it is, and then with the changes.
use Rattle.http_cache_findings.proofs.whatif.costs_if.Goals as goal

pub returns : goal.returns
returns c =
    record {
      target = c.in_ok-target.target;
      known = c.in_ok-known.known.items;
      costs = rw c.as_slice.ensures.value at c.in_ok-known.ensures;
      other_costs =
          rw (c.as_slice-2.ensures.value, c.as_slice-3.ensures.value, c.in_ok-recorded.ensures) at c.in_ok-then.ensures;
    }

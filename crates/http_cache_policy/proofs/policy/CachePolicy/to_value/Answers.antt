-- The value reads back as the stored exchange, with the target that the printed one denotes.
use Rattle.std.proofs.Common.{◌↔◌, ◌≤◌, sym, subst}
use Rattle.serde_json.specs.Data.{Data, depth}
use Rattle.serde_json.specs.View.{view}
use Rattle.http_cache_json.specs.Stored.{IsStored}
use Rattle.http_cache_json.specs.ReadBack.{IsWrittenFor, IsReadBack}
use Rattle.http_cache_json.proofs.DepthLemmas.{stored-flat}
use Rattle.http_cache_json.proofs.StoredBackLemmas.{stored-reads_back}
use Rattle.http_cache_policy.proofs.ReadLemmas.{kept-restored}
use Rattle.http_cache_policy.proofs.policy.CachePolicy.to_value.Goals as goal

pub returns-clause-reads_back : goal.returns-clause-reads_back
returns-clause-reads_back c = λ e.
    let stored = c.args.self.now in
    let written : IsWrittenFor (view c.in_ok-value_of_parts.field-0) stored =
    subst (IsWrittenFor (view c.in_ok-value_of_parts.field-0)) c.parts.ensures.value c.in_ok-value_of_parts.ensures in
    subst (λ (d : Data). IsStored d e ↔ IsReadBack stored e) (sym written.is)
    (stored-reads_back stored e written.writable)

pub returns-clause-shallow : goal.returns-clause-shallow
returns-clause-shallow c =
    let written = c.in_ok-value_of_parts.ensures in
    subst (λ (d : Data). depth d ≤ 3) (sym written.is) (stored-flat _)

pub returns-clause-restored : goal.returns-clause-restored
returns-clause-restored c = λ e is.
    kept-restored c.args.self.now e c.parts.ensures.settled ((returns-clause-reads_back c e).0 is)

-- What is read back, with the exact target, is the policy.
use Rattle.std.proofs.Common.{◌≡◌, ℕ, List, subst, ◌∙◌}
use Rattle.std.proofs.Math.Logic.{∥∥₁_elim}
use Rattle.std.proofs.lemmas.Result.{IfOk-weaker}
use base.Stored.{Coded-set}
use Rattle.http_cache_rules.specs.Exchange.{Exchange, exchange_code, exchange_in}
use Rattle.http_cache_compact.specs.Compact.{IsCompactOf}
use Rattle.http_cache_policy.specs.Kept.{kept_exchange}
use Rattle.http_cache_disk_store.proofs.PackedLemmas.{read_exactly}
use Rattle.http_cache_disk_store.proofs.head.Packed.policy.Goals as goal

pub returns : goal.returns
returns c =
    let self = c.args.self.now in
    let e : Exchange = self.exchange.value in
    let same : kept_exchange (exchange_in c.with_target.result) ≡ e =
    ∥∥₁_elim self.is_packed (Coded-set exchange_code _ _)
    (λ packed. read_exactly e c.in_ok-parts.parts c.with_target.result c.in_ok-target.target _ _ _ packed c.in_ok-target.ensures
    (subst (λ (bytes : List ℕ). IsCompactOf bytes (exchange_in c.in_ok-parts.parts)) c.as_slice.ensures.value c.in_ok-parts.ensures.found)
    c.with_target.ensures) in
    IfOk-weaker c.from_details.result _ _ (λ p is. is ∙ same) c.from_details.ensures.value

-- The bytes were written of the policy.
use Rattle.std.proofs.Common.{subst, sym, ◌∙◌}
use Rattle.http_cache_rules.specs.Exchange.{Exchange}
use Rattle.http_cache_disk_store.specs.Packed.{IsPackedOf}
use Rattle.http_cache_disk_store.proofs.PackedLemmas.{usable}
use Rattle.http_cache_disk_store.proofs.head.Packed.of.Goals as goal

pub invariant_of-result : goal.invariant_of-result
invariant_of-result c =
    let e = c.args.policy.now in
    let packed : IsPackedOf e c.in_ok-bytes_of.field-0.items c.in_ok-copy_of.field-0 c.usable_until.result = record {
      target = c.in_ok-copy_of.ensures ∙ c.stored_target.ensures;
      read = c.in_ok-bytes_of.ensures.read;
      settled = c.bytes_of.ensures.settled;
      ends = usable c.usable_until.result e c.usable_until.ensures.always c.usable_until.ensures.until;
    } in
    record {
      is_packed = ∣ subst (λ (f : Exchange). IsPackedOf f c.in_ok-bytes_of.field-0.items c.in_ok-copy_of.field-0 c.usable_until.result)
          (sym c.of.ensures) packed ∣₁;
    }

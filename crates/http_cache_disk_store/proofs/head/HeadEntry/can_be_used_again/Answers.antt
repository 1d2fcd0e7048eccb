-- The response can be used again before the time.
use Rattle.std.proofs.Common.{subst, sym, Option}
use Rattle.std.proofs.Math.Logic.{∥∥₁_elim}
use base.Stored.{Coded-set, coded_bool}
use Rattle.jiff.specs.declared.timestamp.Timestamp.{Timestamp}
use Rattle.http_cache_disk_store.specs.Packed.{IsUsableUntil}
use Rattle.http_cache_disk_store.proofs.PackedLemmas.{before_end}
use Rattle.http_cache_disk_store.proofs.head.HeadEntry.can_be_used_again.Goals as goal

pub returns-in-Some : goal.returns-in-Some
returns-in-Some c =
    let packed = c.args.self.now.packed in
    ∥∥₁_elim packed.is_packed (Coded-set coded_bool _ _)
    (λ is. before_end c.in-Some.until packed.exchange.value c.args.now.nanosecond c.lt.result c.args.now.in_range c.lt.ensures
    (subst (λ (o : Option Timestamp). IsUsableUntil o packed.exchange.value) c.in-Some.is is.ends))

pub returns-in-None : goal.returns-in-None
returns-in-None c =
    let packed = c.args.self.now.packed in
    ∥∥₁_elim packed.is_packed (Coded-set coded_bool _ _)
    (λ is. sym (subst (λ (o : Option Timestamp). IsUsableUntil o packed.exchange.value) c.in-None.is is.ends c.args.now.nanosecond c.args.now.in_range))

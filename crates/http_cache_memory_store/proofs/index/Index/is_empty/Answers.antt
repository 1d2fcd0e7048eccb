-- `held` is the amount of all that is stored.
use Rattle.std.proofs.Common.{◌≡◌, arith, length, refl}
use Rattle.std.proofs.lemmas.Bool.Decides.{nat_tests}
use Rattle.std.specs.Map.{lookup}
use Rattle.http_cache_memory_store.specs.Index.{all_entries, is_text}
use Rattle.http_cache_memory_store.proofs.Totals.{none-stored}
use Rattle.http_cache_memory_store.proofs.index.Index.is_empty.Goals as goal

pub returns-clause-none : goal.returns-clause-none
returns-clause-none g c = λ is text.
    let self = c.args.self.now in
    let es = self.kept.entries in
    let zero_held : self.held.responses ≡ 0 = grind (arith, nat_tests) in
    let none : length (all_entries es) ≡ 0 = omega (arith, zero_held, self.counted.amount.responses) in
    none-stored g.E.Entry.seen text es (lookup (is_text text) es) refl none

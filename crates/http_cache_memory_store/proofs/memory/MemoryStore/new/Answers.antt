-- Nothing is stored.
use Rattle.std.proofs.Common.{ℕ, List, [], length, ap, refl}
use Rattle.std.specs.Map.{lookup}
use Rattle.http_cache_store.specs.declared.store.StoredResponse.{StoredResponse}
use Rattle.http_cache_memory_store.specs.Stored.{seen_of}
use Rattle.http_cache_memory_store.specs.Index.{is_text, stored_under, all_entries}
use Rattle.http_cache_memory_store.proofs.FitLemmas.{fit-same, fit-none}
use Rattle.http_cache_memory_store.proofs.IdLemmas.{below-same, below-none}
use Rattle.http_cache_memory_store.proofs.Totals.{none-stored}
use Rattle.http_cache_memory_store.proofs.OnceLemmas.{once-none}
use Rattle.http_cache_memory_store.proofs.memory.MemoryStore.new.Goals as goal

pub returns-clause-empty : goal.returns-clause-empty
returns-clause-empty c text =
    let es = c.in_ok-new.field-0.kept.entries in
    none-stored seen_of text es (lookup (is_text text) es) refl (ap (λ (xs : List StoredResponse). length xs) c.in_ok-new.ensures.empty)

pub invariant_of-result : goal.invariant_of-result
invariant_of-result c =
    let es = c.in_ok-new.field-0.kept.entries in
    let none = λ (text : List ℕ). none-stored seen_of text es (lookup (is_text text) es) refl
    (ap (λ (xs : List StoredResponse). length xs) c.in_ok-new.ensures.empty) in
    record {
      ids_below = λ text. below-same 0 (stored_under seen_of es text) [] (none text) (below-none 0);
      fitting = λ text. fit-same c.in_ok-new.field-0.limits (stored_under seen_of es text) [] (none text) (fit-none c.in_ok-new.field-0.limits);
      once = once-none seen_of 0 (all_entries es) c.in_ok-new.ensures.empty;
    }

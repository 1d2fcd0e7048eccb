-- The key is a copy of the text.
use Rattle.std.proofs.Common.{◌≡◌, ◌≤◌, ◌++◌, ◌∷◌, ℕ, List, length, string_bytes, subst, sym}
use Rattle.http_cache_memory_store.specs.Index.{all_entries}
use Rattle.http_cache_memory_store.specs.Removal.{HasSameIds}
use Rattle.http_cache_memory_store.proofs.Outcomes.{on-ok}
use Rattle.http_cache_memory_store.proofs.index.map.put_new.Goals as goal

pub returns-clause-texts : goal.returns-clause-texts
returns-clause-texts g c = λ most own h.
    let same : string_bytes c.in_ok-key.key ≡ c.args.text.now = c.in_ok-key.ensures.ok in
    c.put_key.ensures.texts most (subst (λ (text : List ℕ). length text ≤ most) (sym same) own) h

pub returns-clause-ids : goal.returns-clause-ids
returns-clause-ids g c =
    let seen = g.E.Entry.seen in
    let old = all_entries c.args.kept.now.entries in
    let new = all_entries c.put_key.new.kept.entries in
    on-ok c.put_key.result (HasSameIds seen (c.in_ok-list.list.entries.items ++ old) new) (HasSameIds seen (c.args.entry ∷ old) new)
    (λ same. subst (λ (l : List g.row.E.Denot). HasSameIds seen (l ++ old) new) c.in_ok-list.ensures same) c.put_key.ensures.ids

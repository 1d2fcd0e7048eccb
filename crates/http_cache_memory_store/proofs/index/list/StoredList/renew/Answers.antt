-- The first response of the id has the new head.
use Rattle.std.proofs.Common.{◌≡◌, Some, None, is_some, nat_eq, position, ap, sym, ◌∙◌}
use Rattle.http_cache_memory_store.proofs.ListLemmas.{renewed-first, renewed-nowhere, is_named}
use Rattle.http_cache_memory_store.proofs.ToldLemmas.{same-renewed}
use Rattle.http_cache_memory_store.proofs.index.list.StoredList.renew.Goals as goal

pub returns-in_default-clause-stored : goal.returns-in_default-clause-stored
returns-in_default-clause-stored g c =
    let items = c.args.self.now.entries.items in
    let none : position (λ e. nat_eq (g.E.Entry.seen e).id c.args.id.0) items ≡ None =
    sym (ap (λ xs. position (λ e. nat_eq (g.E.Entry.seen e).id c.args.id.0) xs) c.as_slice.ensures.value) ∙ sym c.index_of.ensures ∙ c.in_default.is in
    renewed-nowhere g.E.Entry.seen c.args.id.0 (g.E.Entry.exchange c.args.head) items none

pub returns-in_default-clause-was_stored : goal.returns-in_default-clause-was_stored
returns-in_default-clause-was_stored g c =
    let items = c.args.self.now.entries.items in
    let none : position (λ e. nat_eq (g.E.Entry.seen e).id c.args.id.0) items ≡ None =
    sym (ap (λ xs. position (λ e. nat_eq (g.E.Entry.seen e).id c.args.id.0) xs) c.as_slice.ensures.value) ∙ sym c.index_of.ensures ∙ c.in_default.is in
    sym (is_named g.E.Entry.seen c.args.id.0 items ∙ ap is_some none)

pub returns-clause-was_stored : goal.returns-clause-was_stored
returns-clause-was_stored g c =
    let items = c.args.self.now.entries.items in
    let at : position (λ e. nat_eq (g.E.Entry.seen e).id c.args.id.0) items ≡ Some c.in-Some.at =
    sym (ap (λ xs. position (λ e. nat_eq (g.E.Entry.seen e).id c.args.id.0) xs) c.as_slice.ensures.value) ∙ sym c.index_of.ensures ∙ c.in-Some.is in
    sym (is_named g.E.Entry.seen c.args.id.0 items ∙ ap is_some at)

pub returns-clause-stored : goal.returns-clause-stored
returns-clause-stored g c =
    let items = c.args.self.now.entries.items in
    let at : position (λ e. nat_eq (g.E.Entry.seen e).id c.args.id.0) items ≡ Some c.in-Some.at =
    sym (ap (λ xs. position (λ e. nat_eq (g.E.Entry.seen e).id c.args.id.0) xs) c.as_slice.ensures.value) ∙ sym c.index_of.ensures ∙ c.in-Some.is in
    renewed-first g.E.Entry.seen c.args.id.0 (g.E.Entry.exchange c.args.head) items c.renew_at.new.entries.items c.in-Some.at at c.renew_at.ensures

pub returns-clause-ids : goal.returns-clause-ids
returns-clause-ids g c =
    same-renewed g.E.Entry.seen c.in-Some.at (g.E.Entry.exchange c.args.head) c.args.self.now.entries.items c.renew_at.new.entries.items c.renew_at.ensures

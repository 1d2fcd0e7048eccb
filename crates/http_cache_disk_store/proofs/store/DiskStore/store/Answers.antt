-- The response is stored first, and the lost ones are removed then.
use Rattle.std.proofs.Common.{◌≡◌, ◌<◌, ℕ, ◌∷◌, All, refl, sym, ap, subst, inl, ◌∙◌}
use Rattle.http_cache_store.specs.declared.store.ResponseId.{ResponseId}
use Rattle.http_cache_store.specs.Store.{StoredSeen}
use Rattle.http_cache_memory_store.proofs.IdLemmas.{below-equal, below-put}
use Rattle.http_cache_disk_store.specs.declared.head.Head.{Head}
use Rattle.http_cache_disk_store.specs.declared.mark.Mark.{Mark}
use Rattle.http_cache_disk_store.specs.Disk.{exchange_of, lanes_in, seen_of, stored_in}
use Rattle.http_cache_disk_store.specs.Sum.{mark_seen, mark_text}
use Rattle.http_cache_disk_store.proofs.LostLemmas.{lost-later, others-left, put-left, same-seen}
use Rattle.http_cache_memory_store.specs.Index.{all_entries}
use Rattle.http_cache_disk_store.proofs.ApartLemmas.{apart-put, apart-same, put-unlinks, tells-from, tells-to, unlinks-exactly}
use Rattle.http_cache_memory_store.proofs.ToldLemmas.{tells-as, tells-then}
use Rattle.http_cache_memory_store.specs.declared.told.Told.{Told}
use Rattle.http_cache_memory_store.proofs.OnceLemmas.{first-counted}
use Rattle.http_cache_memory_store.specs.Removal.{TellsRemoved}
use Rattle.http_cache_disk_store.proofs.store.DiskStore.store.Goals as goal

pub invariant_of-self-in-Ok : goal.invariant_of-self-in-Ok
invariant_of-self-in-Ok g c =
    let self = c.args.self.now in
    let head : Head = record { id = c.new-id.result; packed = c.args.packed; place = c.place_after-place.result } in
    let given : head.id.0 ≡ self.next_id = c.new-id.ensures in
    let old = all_entries self.index.kept.entries in
    let mid = all_entries c.put.new.self.kept.entries in
    let written : c.write_file.new.disc.told.items ≡ self.disc.told.items = ap (λ (l : Told ResponseId). l.items) c.write_file.ensures in
    let put : TellsRemoved seen_of (head ∷ old) mid self.disc.told.items c.put.new.gone.told.items =
    tells-from (head ∷ old) mid c.write_file.new.disc.told.items self.disc.told.items c.put.new.gone.told.items written c.in-Ok.ensures.told in
    record {
      ids_below = below-put self.next_id c.args.text.now (seen_of head) c.args.superseded.now (stored_in self.index.kept.entries)
          (stored_in c.put.new.self.kept.entries) given c.in-Ok.ensures.put c.put.ensures.others self.ids_below;
      lost_below = lost-later self.next_id self.lost.items self.lost_below;
      apart = apart-put self.next_id head old mid self.disc.told.items c.put.new.gone.told.items given put self.apart;
    }

pub invariant_of-self-in-Err-put : goal.invariant_of-self-in-Err-put
invariant_of-self-in-Err-put g c =
    let self = c.args.self.now in
    let written : c.write_file.new.disc.told.items ≡ self.disc.told.items = ap (λ (l : Told ResponseId). l.items) c.write_file.ensures in
    record {
      ids_below = below-equal self.next_id (stored_in self.index.kept.entries) (stored_in c.put.new.self.kept.entries)
          c.in-Err-put.ensures.kept self.ids_below;
      lost_below = self.lost_below;
      apart = apart-same self.next_id (all_entries self.index.kept.entries) (all_entries c.put.new.self.kept.entries) self.disc.told.items
          c.discard.new.self.told.items c.in-Err-put.ensures.ids (ap (λ (l : Told ResponseId). l.items) c.discard.ensures.told ∙ c.in-Err-put.ensures.none_told ∙ written) self.apart;
    }

pub returns-in-Ok-clause-put : goal.returns-in-Ok-clause-put
returns-in-Ok-clause-put g c =
    let self = c.args.self.now in
    let head : Head = record { id = c.new-id.result; packed = c.args.packed; place = c.place_after-place.result } in
    let lost = self.lost.items in
    let after = c.begin.new.self in
    let given : head.id.0 ≡ self.next_id = c.new-id.ensures in
    let first = put-left lost c.args.text.now c.args.superseded.now (seen_of head) (stored_in self.index.kept.entries)
    (stored_in c.put.new.self.kept.entries) (stored_in after.index.kept.entries)
    (subst (λ (n : ℕ). All (λ one. one.id.0 < n) lost) (sym given) self.lost_below) c.in-Ok.ensures.put c.begin.ensures.stored in
    let same = same-seen head.id.0 self.next_id (exchange_of head.packed) (exchange_of c.args.packed)
    (mark_text head.place.mark.length (lanes_in head.place.mark.sum)) (mark_seen c.args.body.now) given
    refl (ap (λ (m : Mark). mark_text m.length (lanes_in m.sum)) c.place_after-place.ensures ∙ c.mark_of.ensures) in
    record {
      given = c.new-id.ensures;
      counted = c.begin.ensures.next;
      left = first.left;
      stored = first.stored ∙ ap (λ (s : StoredSeen). s ∷ first.left) same;
      newest = inl first.newest;
    }

pub returns-in-Ok-clause-others : goal.returns-in-Ok-clause-others
returns-in-Ok-clause-others g c =
    let self = c.args.self.now in
    let after = c.begin.new.self in
    others-left self.lost.items c.args.text.now (stored_in self.index.kept.entries) (stored_in c.put.new.self.kept.entries)
    (stored_in after.index.kept.entries) c.put.ensures.others c.begin.ensures.stored

pub returns-then-not-fits-clause-put : goal.returns-then-not-fits-clause-put
returns-then-not-fits-clause-put g c = (c.remove_ids.ensures.removed.own_stored, c.remove_ids.ensures.next)

pub returns-then-not-fits-clause-others : goal.returns-then-not-fits-clause-others
returns-then-not-fits-clause-others g c = λ other differ. inl (c.remove_ids.ensures.removed.others other differ)

pub returns-then-not-fits-clause-unlinked : goal.returns-then-not-fits-clause-unlinked
returns-then-not-fits-clause-unlinked g c =
    let self = c.args.self.now in
    let after = c.remove_ids.new.self in
    unlinks-exactly self.next_id (all_entries self.index.kept.entries) (all_entries after.index.kept.entries) self.disc.told.items after.disc.told.items
    c.remove_ids.ensures.unlinked self.apart

pub returns-in-Err-clause-unlinked : goal.returns-in-Err-clause-unlinked
returns-in-Err-clause-unlinked g c =
    let self = c.args.self.now in
    let after = c.give_up.new.self in
    let old = all_entries self.index.kept.entries in
    let new = all_entries after.index.kept.entries in
    let written : c.write_file.new.disc.told.items ≡ self.disc.told.items = ap (λ (l : Told ResponseId). l.items) c.write_file.ensures in
    unlinks-exactly self.next_id old new self.disc.told.items after.disc.told.items
    (tells-from old new c.write_file.new.disc.told.items self.disc.told.items after.disc.told.items written c.give_up.ensures.unlinked) self.apart

pub returns-in-Ok-clause-unlinked : goal.returns-in-Ok-clause-unlinked
returns-in-Ok-clause-unlinked g c =
    let self = c.args.self.now in
    let head : Head = record { id = c.new-id.result; packed = c.args.packed; place = c.place_after-place.result } in
    let after = c.begin.new.self in
    let given : head.id.0 ≡ self.next_id = c.new-id.ensures in
    let first = put-left self.lost.items c.args.text.now c.args.superseded.now (seen_of head) (stored_in self.index.kept.entries)
    (stored_in c.put.new.self.kept.entries) (stored_in after.index.kept.entries)
    (subst (λ (n : ℕ). All (λ one. one.id.0 < n) self.lost.items) (sym given) self.lost_below) c.in-Ok.ensures.put c.begin.ensures.stored in
    let old = all_entries self.index.kept.entries in
    let mid = all_entries c.put.new.self.kept.entries in
    let new = all_entries after.index.kept.entries in
    let written : c.write_file.new.disc.told.items ≡ self.disc.told.items = ap (λ (l : Told ResponseId). l.items) c.write_file.ensures in
    let put : TellsRemoved seen_of (head ∷ old) mid self.disc.told.items c.put.new.gone.told.items =
    tells-from (head ∷ old) mid c.write_file.new.disc.told.items self.disc.told.items c.put.new.gone.told.items written c.in-Ok.ensures.told in
    let settled : after.disc.told.items ≡ c.settle.new.self.told.items = ap (λ (l : Told ResponseId). l.items) (sym c.settle.ensures.told) in
    put-unlinks self.next_id head old new self.disc.told.items c.settle.new.self.told.items given
    (first-counted seen_of c.args.text.now after.index.kept.entries (seen_of head) first.left first.stored)
    (tells-to (head ∷ old) new self.disc.told.items after.disc.told.items c.settle.new.self.told.items settled
    (tells-then seen_of (head ∷ old) mid new self.disc.told.items c.put.new.gone.told.items after.disc.told.items put c.begin.ensures.unlinked))
    self.apart

pub returns-in-Err-put-clause-kept : goal.returns-in-Err-put-clause-kept
returns-in-Err-put-clause-kept g c _ = record { stored = c.in-Err-put.ensures.kept; next_id = refl }

pub returns-in-Err-put-clause-unlinked : goal.returns-in-Err-put-clause-unlinked
returns-in-Err-put-clause-unlinked g c =
    let self = c.args.self.now in
    let old = all_entries self.index.kept.entries in
    let new = all_entries c.put.new.self.kept.entries in
    let written : c.write_file.new.disc.told.items ≡ self.disc.told.items = ap (λ (l : Told ResponseId). l.items) c.write_file.ensures in
    unlinks-exactly self.next_id old new self.disc.told.items c.discard.new.self.told.items
    (tells-as seen_of old new self.disc.told.items c.discard.new.self.told.items c.in-Err-put.ensures.ids
    (ap (λ (l : Told ResponseId). l.items) c.discard.ensures.told ∙ c.in-Err-put.ensures.none_told ∙ written)) self.apart

-- The response that turned out to be lost is left out by the next change, and a body that was read has its mark.
use Rattle.std.proofs.Common.{◌≡◌, ℕ, List, Some, false, refl, sym, ap, subst, inl, ◌∙◌}
use Rattle.http_cache_store.specs.Store.{LosesAtMost, has_id, stored_mark}
use Rattle.http_cache_disk_store.specs.Disk.{lanes_in, lasting_in, stored_in}
use Rattle.http_cache_disk_store.specs.Sum.{mark_seen, mark_text}
use Rattle.http_cache_disk_store.proofs.LostLemmas.{loses-one, one-gone}
use Rattle.http_cache_disk_store.proofs.store.DiskStoreStore.body.Goals as goal

pub returns-in_default-clause-kept : goal.returns-in_default-clause-kept
returns-in_default-clause-kept g c = record { stored = refl; next_id = refl }

pub returns-in_default-clause-lost : goal.returns-in_default-clause-lost
returns-in_default-clause-lost g c _ =
    let self = c.args.self.now in
    subst (λ (text : List ℕ). has_id c.args.id.0 (lasting_in self.lost.items self.index.kept.entries text) ≡ false) c.as_str-text.ensures
    (c.place_of.ensures.none c.in_default.is)

pub returns-in_default-clause-lasting : goal.returns-in_default-clause-lasting
returns-in_default-clause-lasting g c = record { own_left = inl refl; others = λ other differ. refl }

pub returns-in-Ok-clause-body : goal.returns-in-Ok-clause-body
returns-in-Ok-clause-body g c =
    let mark = c.in-Some.place.mark in
    let es = c.args.self.now.index.kept.entries in
    let stored : stored_mark c.args.id.0 (stored_in es c.as_str-text.result.now) ≡ Some (mark_text mark.length (lanes_in mark.sum)) =
    c.in-Some.ensures.mark in
    subst (λ (text : List ℕ). stored_mark c.args.id.0 (stored_in es text) ≡ Some (mark_seen c.in-Ok.body)) c.as_str-text.ensures
    (stored ∙ ap Some (sym c.in-Ok.ensures))

pub returns-in-Ok-clause-kept : goal.returns-in-Ok-clause-kept
returns-in-Ok-clause-kept g c = record { stored = refl; next_id = refl }

pub returns-in-Ok-clause-lasting : goal.returns-in-Ok-clause-lasting
returns-in-Ok-clause-lasting g c = record { own_left = inl refl; others = λ other differ. refl }

pub returns-in_ok-lose-in-Err-Lost-clause-kept : goal.returns-in_ok-lose-in-Err-Lost-clause-kept
returns-in_ok-lose-in-Err-Lost-clause-kept g c = record { stored = refl; next_id = refl }

pub returns-in_ok-lose-in-Err-Lost-clause-lost : goal.returns-in_ok-lose-in-Err-Lost-clause-lost
returns-in_ok-lose-in-Err-Lost-clause-lost g c _ =
    let self = c.args.self.now in
    let es = self.index.kept.entries in
    subst (λ (text : List ℕ). has_id c.args.id.0 (lasting_in c.lose.new.lost.items es text) ≡ false) c.as_str-text.ensures
    (one-gone c.as_str-text.result.now c.args.id self.lost.items c.lose.new.lost.items c.in_ok-lose-in-Err-Lost.ensures.lost (stored_in es))

pub returns-in_ok-lose-in-Err-Lost-clause-lasting : goal.returns-in_ok-lose-in-Err-Lost-clause-lasting
returns-in_ok-lose-in-Err-Lost-clause-lasting g c =
    let self = c.args.self.now in
    let es = self.index.kept.entries in
    subst (λ (text : List ℕ). LosesAtMost text c.args.id (lasting_in self.lost.items es) (lasting_in c.lose.new.lost.items es)) c.as_str-text.ensures
    (loses-one c.as_str-text.result.now c.args.id self.lost.items c.lose.new.lost.items c.in_ok-lose-in-Err-Lost.ensures.lost (stored_in es))

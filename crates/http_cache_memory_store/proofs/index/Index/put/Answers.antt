-- The new response is put first and stays, and the limits hold.
use Rattle.std.proofs.Common.{◌≡◌, ◌≤◌, arith, true, false, not, ◌∷◌, length, ap, subst, sym, inl, ◌∙◌}
use Rattle.http_cache_store.specs.Store.{StoredByTarget, without}
use Rattle.http_cache_memory_store.specs.Index.{all_entries, stored_under}
use Rattle.http_cache_memory_store.proofs.BoundsLemmas.{inserted, stored-kept}
use Rattle.http_cache_memory_store.specs.Size.{IsAllowed}
use Rattle.http_cache_memory_store.proofs.MapLemmas.{stored-top}
use Rattle.http_cache_memory_store.proofs.RoomLemmas.{left-shorter}
use Rattle.http_cache_memory_store.proofs.ToldLemmas.{tells-then}
use Rattle.http_cache_memory_store.proofs.index.Index.put.Goals as goal

pub returns-in_err-put_stored-clause-others : goal.returns-in_err-put_stored-clause-others
returns-in_err-put_stored-clause-others g c = λ other differ. inl (ap (λ (f : StoredByTarget). f other) c.in_err-put_stored.ensures.kept)

pub returns-clause-put : goal.returns-clause-put
returns-clause-put g c =
    let text = c.args.text.now in
    let old = c.args.self.now.kept.entries in
    let mid = c.put_stored.new.kept.entries in
    let swept = c.sweep_others_if.new.kept.entries in
    let before = without c.args.superseded.now (stored_under g.E.Entry.seen old text) in
    inserted g.E.Entry.seen text (g.E.Entry.seen c.args.entry) before swept c.keep_limits.new.kept.entries
    (stored-kept g.E.Entry.seen text mid swept c.sweep_others_if.ensures.first
    ∙ stored-top g.E.Entry.seen text (g.E.Entry.seen c.args.entry ∷ before) old mid c.in_ok-put_stored.ensures.ok)
    c.keep_limits.ensures.kept

pub returns-clause-whole : goal.returns-clause-whole
returns-clause-whole g c = λ room.
    let seen = g.E.Entry.seen in
    let self = c.args.self.now in
    let l = self.limits in
    let text = c.args.text.now in
    let old = stored_under seen self.kept.entries in
    let mid = c.put_stored.new.kept in
    let put = c.in_ok-put_stored.ensures in
    let before = without c.args.superseded.now (old text) in
    let allowed : IsAllowed l c.put_stored.new.held = record {
      responses = omega (arith, put.grows, room.responses, self.counted.amount.responses);
      bytes = omega (arith, put.more, room.bytes, self.counted.amount.bytes);
    } in
    let allows : c.allow-is_full.result ≡ true = let yes = c.allow-is_full.ensures.1 allowed in cc in
    let due : c.is_sweep_due-is_due.result ≡ false = c.is_sweep_due-is_due.ensures (ap not allows) in
    let same = c.sweep_others_if.ensures.unswept due in
    let own_mid : stored_under seen mid.entries text ≡ seen c.args.entry ∷ before =
    stored-top seen text (seen c.args.entry ∷ before) self.kept.entries mid.entries put.ok in
    let own_swept : stored_under seen c.sweep_others_if.new.kept.entries text ≡ seen c.args.entry ∷ before =
    ap (λ k. stored_under seen k.entries text) same.0 ∙ own_mid in
    let few : length (stored_under seen c.sweep_others_if.new.kept.entries text) ≤ l.variants =
    omega (arith, ap length own_swept, left-shorter c.args.superseded.now (old text), room.variants) in
    let whole : stored_under seen c.keep_limits.new.kept.entries ≡ stored_under seen mid.entries =
    c.keep_limits.ensures.whole (subst (IsAllowed l) (sym same.1) allowed) few ∙ ap (λ k. stored_under seen k.entries) same.0 in
    record {
      own_stored = ap (λ (f : StoredByTarget). f text) whole ∙ own_mid;
      others = λ other differ. ap (λ (f : StoredByTarget). f other) whole ∙ put.ok.others other differ;
    }

pub returns-clause-told : goal.returns-clause-told
returns-clause-told g c =
    let seen = g.E.Entry.seen in
    let all = c.args.entry ∷ all_entries c.args.self.now.kept.entries in
    let put = all_entries c.put_stored.new.kept.entries in
    let swept = all_entries c.sweep_others_if.new.kept.entries in
    let left = all_entries c.keep_limits.new.kept.entries in
    let t = g.G.Removed.told c.args.gone.now in
    let u = g.G.Removed.told c.put_stored.new.gone in
    let v = g.G.Removed.told c.sweep_others_if.new.gone in
    let w = g.G.Removed.told c.keep_limits.new.gone in
    tells-then seen all put left t u w c.in_ok-put_stored.ensures.told
    (tells-then seen put swept left u v w c.sweep_others_if.ensures.told c.keep_limits.ensures.told)

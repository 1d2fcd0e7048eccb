-- The entry of a name has its first value, or is added last.
use Rattle.std.proofs.Common.{◌≡◌, List, ℕ, sym, subst, ap, ◌∙◌, option_map, rules, Option}
use Rattle.std.specs.Option.{option_copied}
use Rattle.http_header.specs.Token.{lowercase}
use Rattle.indexmap.specs.declared.map.entry.Entry.TheVariants.{Occupied, Vacant}
use Rattle.indexmap.specs.Entry.{entry_value, map_with_value}
use Rattle.http_cache_fields.specs.Directives.{Directive}
use Rattle.http_cache_fields.specs.Shown.{sent_entries}
use Rattle.http_cache_fields.specs.Reading.{Table, IsFirst}
use Rattle.http_cache_fields.specs.declared.names.Name.{Name}
use Rattle.http_cache_fields.proofs.ShownLemmas.{value_under-shown, shown-insert}
use Rattle.http_cache_fields.proofs.ReadLemmas.{set_directive-new}
use Rattle.http_cache_fields.proofs.ReadingLemmas.{with_first-again, with_first-new, set_directive-same}
use Rattle.http_cache_fields.proofs.reading.earlier_or_add.Goals as goal

abbrev sent_name : Name → List ℕ
sent_name n = lowercase n.0.now

-- the table is what the borrow of its entry leaves
once_left : (old : Table) (d : Directive) (earlier : Option (Option (List ℕ))) (table new : Table)
    → IsFirst old d earlier table → new ≡ table → IsFirst old d earlier new
once_left old d earlier table new first same = subst (IsFirst old d earlier) (sym same) first

pub returns-in-Occupied : goal.returns-in-Occupied
returns-in-Occupied c =
    let es = c.args.table.now.entries in
    let v = c.into_mut.result.now in
    let found = ap (option_map option_copied)
    (sym c.into_mut.ensures.value ∙ ap entry_value (sym c.in-Occupied.is) ∙ c.in_ok-entry.ensures.value)
    ∙ sym (value_under-shown sent_name option_copied es (lowercase c.args.name.now)) in
    let added = ap sent_entries
    (ap (λ e. (map_with_value e v).entries) (sym c.in-Occupied.is) ∙ c.in_ok-entry.ensures.update.1 v)
    ∙ shown-insert sent_name option_copied es _ v
    ∙ set_directive-same (sent_entries es) _ (sym found)
    ∙ sym (with_first-again (sent_entries es) _ _ (sym found)) in
    once_left _ _ _ (map_with_value (Occupied c.in-Occupied.entry) v) _
    (record { found = found; added = added }) (search rules)

pub returns-in-Vacant : goal.returns-in-Vacant
unfolding entry_value
returns-in-Vacant c =
    let es = c.args.table.now.entries in
    let v = c.args.value in
    let found = ap (option_map option_copied) (ap entry_value (sym c.in-Vacant.is) ∙ c.in_ok-entry.ensures.value)
    ∙ sym (value_under-shown sent_name option_copied es (lowercase c.args.name.now)) in
    let added = ap sent_entries
    (ap (λ e. (map_with_value e v).entries) (sym c.in-Vacant.is) ∙ c.in_ok-entry.ensures.update.1 v)
    ∙ shown-insert sent_name option_copied es _ v
    ∙ set_directive-new (sent_entries es) _ (sym found)
    ∙ sym (with_first-new (sent_entries es) _ (sym found)) in
    once_left _ _ _ (map_with_value (Vacant c.in-Vacant.entry) v) _
    (record { found = found; added = added }) (search rules)

-- A copy is added last, since the directives have distinct names.
use Rattle.std.proofs.Common.{◌≡◌, ◌<◌, length, take, Some, arith, sym, subst, ap, ◌∙◌, string_bytes, slice_get}
use Rattle.std.specs.Option.{option_map}
use Rattle.std.specs.Cow.{cow_str_bytes}
use Rattle.std.specs.Map.Iter.{deref_pair}
use Rattle.std.proofs.lemmas.List.{length-map}
use Rattle.std.proofs.lemmas.Option.{slice_get-map}
use Rattle.std.proofs.Math.Seq.{take-length}
use Rattle.http_cache_fields.specs.Directives.{set_directive}
use Rattle.http_cache_fields.specs.Readable.{AreDirectives}
use Rattle.http_cache_fields.specs.Shown.{sent_entry, shown_entries}
use Rattle.http_cache_fields.proofs.ShownLemmas.{shown-insert}
use Rattle.http_cache_fields.proofs.ReadLemmas.{set_directive-new}
use Rattle.http_cache_fields.proofs.ReadingLemmas.{value_under-take, take_one_more}
use Rattle.http_cache_fields.proofs.directives.CacheControl.of.Goals as goal

pub loop-i-preserved : goal.loop-i-preserved
loop-i-preserved c =
    let es = c.entries-entries.result in
    let ds = c.args.first.now in
    let i = c.loop-i.i in
    let d = sent_entry (deref_pair c.unwrap.result) in
    let at : slice_get ds i ≡ Some d =
    ap (λ ds. slice_get ds i) (sym c.entries-entries.ensures.shown) ∙ slice_get-map sent_entry es i
    ∙ ap (option_map sent_entry) (sym (ap (option_map deref_pair) (sym c.unwrap.ensures) ∙ c.get_index.ensures.entry)) in
    let size : length ds ≡ length es = ap length (sym c.entries-entries.ensures.shown) ∙ length-map es sent_entry in
    let inside : i < length ds = omega arith in
    let new = value_under-take ds i d c.entries-entries.ensures.valid.distinct at in
    ap shown_entries c.in_ok-insert.ensures.entries
    ∙ shown-insert cow_str_bytes (option_map string_bytes) c.loop-i.directives.entries _ _
    ∙ (λ j. set_directive (c.loop-i.invariant j) (c.in_ok-name.ensures j, c.in_ok-owned_value.ensures j))
    ∙ set_directive-new (take i ds) d new ∙ sym (take_one_more ds i d at inside)

pub returns : goal.returns
returns c =
    let ds = c.args.first.now in
    let size : length ds ≡ length c.entries-entries.result =
    ap length (sym c.entries-entries.ensures.shown) ∙ length-map c.entries-entries.result sent_entry in
    let end : c.loop-i.i ≡ length ds = omega arith in
    c.loop-i.invariant ∙ ap (λ k. take k ds) end ∙ take-length ds

pub invariant_of-result : goal.invariant_of-result
invariant_of-result c = subst AreDirectives (sym (returns c)) c.entries-entries.ensures.valid

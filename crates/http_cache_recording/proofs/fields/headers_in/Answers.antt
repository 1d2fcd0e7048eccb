-- The values of a list are those of its view.
use Rattle.std.proofs.Common.{◌≡◌, List, [], map, fold, sym, ap, ◌∙◌, Option, Some}
use Rattle.std.specs.Prelude.{option_map, unwrap_or}
use Rattle.std.specs.FinMap as fin
use Rattle.std.proofs.lemmas.List.Folds.{fold-map}
use Rattle.serde_json.specs.Data.{Data, Items}
use Rattle.serde_json.specs.View.{view, items_view}
use Rattle.serde_json.specs.Find.{as_array}
use Rattle.serde_json.specs.declared.value.Value.{Value}
use Rattle.http_cache_fields.specs.Headers.{headers_of}
use Rattle.http_cache_json.specs.Lists.{values_of}
use Rattle.http_cache_json.proofs.ZipLemmas.{values_of-items_of}
use Rattle.http_cache_recording.specs.Fields.{headers_in, with_header}
use Rattle.http_cache_recording.proofs.fields.headers_in.Goals as goal

seen : (d : Data) (vs : List Value) → Some (items_view vs) ≡ as_array d
    → fold (λ h v. with_header h (view v)) fin.empty vs ≡ headers_in (Some d)
unfolding headers_in
seen d vs is =
    sym (fold-map with_header view fin.empty vs) ∙ ap (fold with_header fin.empty) (sym (values_of-items_of (map view vs)))
    ∙ ap (λ (o : Option Items). fold with_header fin.empty (unwrap_or (option_map values_of o) [])) is

pub returns : goal.returns
returns c =
    let start = c.new-headers.ensures in
    let values = c.as_slice.ensures.value in
    rw c.in-Some.is
    (c.in_ok-add_headers.ensures ∙ (λ i. fold (λ h v. with_header h (view v)) (headers_of (start i)) (values i))
    ∙ seen (view c.in-Some.list.now) c.in-Some-as_array.values.now.items c.in-Some-as_array.ensures)

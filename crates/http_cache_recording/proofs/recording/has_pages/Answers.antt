-- A list of pages has one unless it is empty.
use Rattle.std.proofs.Common.{rules, ◌≡◌, ◌∙◌, refl, ap, not, ◌==◌, List, [], ◌∷◌, length, false}
use Rattle.std.specs.Option.{option_map_or}
use Rattle.serde_json.specs.View.{items_view}
use Rattle.serde_json.specs.declared.value.Value.{Value}
use Rattle.http_cache_recording.specs.Recording.{is_item}
use Rattle.http_cache_recording.proofs.recording.has_pages.Goals as goal

some_items : (vs : List Value) → not (length vs == 0) ≡ is_item (items_view vs)
some_items [] = refl
some_items (v ∷ vs) = grind rules

pub returns-in-Some : goal.returns-in-Some
returns-in-Some c =
    ap not c.is_empty.ensures ∙ some_items c.as_slice.result.now
    ∙ ap (λ vs. is_item (items_view vs)) c.as_slice.ensures.value
    ∙ ap (λ o. option_map_or is_item o false) c.in-Some.ensures

-- Each listed change saves bytes.
use Rattle.std.proofs.Common.{◌≡◌, ◌∙◌, ap, refl, ℕ, ◌&&◌, Bool, true, false, List, [], ◌∷◌, slice_get, Option, Some, None, if◌then◌else◌}
use Rattle.std.specs.List.{flat_map, list_all}
use Rattle.std.specs.Option.{option_map_or}
use Rattle.std.proofs.lemmas.List.Folds.{list_all-append}
use Rattle.http_cache_findings.specs.declared.counts.Counts.{Counts}
use Rattle.http_cache_findings.specs.declared.changes.Change.{Change}
use Rattle.http_cache_findings.specs.declared.picks.Base.{Base}
use Rattle.http_cache_findings.specs.declared.remedy.Remedy.{Remedy}
use Rattle.http_cache_findings.specs.Changes.{saves, change_if, change_by, change_at}

listed-if : (b : Bool) (c : Change) → saves c ≡ b → list_all saves (if b then c ∷ [] else []) ≡ true
listed-if true c is = rw is refl
listed-if false c is = refl

listed-in : (base : Base) (now after : Counts) (index : ℕ) (found : Option Remedy)
    → list_all saves (option_map_or (λ (m : Remedy). change_if (change_by base now after index m)) found []) ≡ true
listed-in base now after index None = refl
listed-in base now after index (Some m) =
    listed-if (saves (change_by base now after index m)) (change_by base now after index m) refl

pub listed-save : (base : Base) (now after : Counts) (ms : List Remedy) (keys : List (ℕ × ℕ))
    → list_all saves (flat_map (change_at base now after ms) keys) ≡ true
listed-save base now after ms [] = refl
listed-save base now after ms (k ∷ ks) =
    list_all-append saves (change_at base now after ms k) (flat_map (change_at base now after ms) ks)
    ∙ (ap (λ b. b && list_all saves (flat_map (change_at base now after ms) ks)) (listed-in base now after k.1 (slice_get ms k.1))
    ∙ listed-save base now after ms ks)

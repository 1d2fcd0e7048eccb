-- After the loop the kept segments are those that are left of the path.
use Rattle.std.proofs.Common.{◌≡◌, ℕ, List, [], ◌∷◌, ◌++◌, Bor, Bool, true, false, cond, map, ap, sym, ◌∙◌, lit<, Vec, Global}
use Rattle.std.specs.List.{fold, slice_split}
use Rattle.std.proofs.lemmas.List.{append-nil, map-append}
use Rattle.std.proofs.lemmas.Iterator.Consumers.{YieldsList-end}
use Rattle.std.proofs.lemmas.Iterator.Splits.{YieldsList-from_str_split}
use Rattle.http_cache_store.specs.Reference.{is_dot_segment, is_slash, left_of, empty_end}
use Rattle.http_cache_store.proofs.PathLemmas.{fold-left, kept_after, empty_end-by}
use Rattle.http_cache_store.proofs.reference.kept_segments.Goals.{then-is_directory+in_ok-push-2, else-is_directory}
use Rattle.http_cache_store.proofs.reference.kept_segments.Goals as goal

pub returns : goal.returns
returns c =
    let segments = slice_split is_slash c.args.path.now in
    let seen = YieldsList-end (YieldsList-from_str_split 47 c.args.path.now (lit< tt) (cc) (cc) (cc))
    c.loop-segment.yielded _ c.loop-segment.yielded_by _ _ c.in-None.is c.next.ensures.steps in
    let kept : map (λ s. s.now) c.loop-segment.kept.items ≡ (left_of segments).1 =
    c.loop-segment.invariant.0 ∙ ap (fold kept_after []) seen.0 ∙ fold-left segments in
    let ends : c.loop-segment.is_directory ≡ fold (λ b s. is_dot_segment s) false segments =
    c.loop-segment.invariant.1 ∙ ap (fold (λ b s. is_dot_segment s) false) seen.0 in
    elim c.if-is_directory.branch [
      | then-is_directory+in_ok-push-2 w ↦
          let pushed : map (λ s. s.now) c.if-is_directory.kept.items ≡ map (λ s. s.now) c.loop-segment.kept.items ++ ([] ∷ []) =
          ap (λ (v : Vec (Bor (List ℕ)) Global). map (λ s. s.now) v.items) w.kept-is
          ∙ ap (map (λ s. s.now)) w.in_ok-push-2.ensures.items ∙ map-append (λ s. s.now) c.loop-segment.kept.items _ in
          pushed ∙ ap (λ (t : List (List ℕ)). t ++ ([] ∷ [])) kept
          ∙ ap (λ (e : List (List ℕ)). (left_of segments).1 ++ e) (empty_end-by segments true (sym w.if-is_directory.true ∙ ends))
      | else-is_directory w ↦
          ap (λ (v : Vec (Bor (List ℕ)) Global). map (λ s. s.now) v.items) w.kept-is ∙ kept ∙ sym (append-nil (left_of segments).1)
          ∙ ap (λ (e : List (List ℕ)). (left_of segments).1 ++ e) (empty_end-by segments false (sym w.if-is_directory.false ∙ ends))
    ]

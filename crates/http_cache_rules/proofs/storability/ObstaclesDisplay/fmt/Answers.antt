-- A row that holds adds its words, after a separator; any other adds nothing.
use Rattle.std.proofs.Common.{rules, ◌≡◌, ℕ, ◌+◌, Bool, true, false, List, [], ◌∷◌, ◌++◌, map, take}
use Rattle.std.proofs.Common.{codes, get_or, if◌then◌else◌, append-nil, refl, sym, ap, ◌∙◌}
use denote.Bor.{Bor}
use Rattle.std.proofs.Output.{has_written_append, has_written_of_eq, has_written_to_eq}
use Rattle.std.proofs.lemmas.List.{take_more, map-append}
use Rattle.http_cache_rules.specs.DisplayText.{listed}
use Rattle.http_cache_rules.proofs.DisplayTextLemmas.{separator_after, added, separator-more, listed-more}
use Rattle.http_cache_rules.proofs.storability.ObstaclesDisplay.fmt.Invariants.{row_seen}
use Rattle.http_cache_rules.proofs.storability.ObstaclesDisplay.fmt.Goals as goal
use Rattle.http_cache_rules.proofs.storability.ObstaclesDisplay.fmt.Goals.{then-row+in_ok-write, else-row}

module _ (items : List (Bool × Bor (List ℕ))) (i : ℕ) (row : Bool × Bor (List ℕ)) where
  abbrev so_far : List (Bool × List ℕ)
  so_far = map row_seen (take i items)

  abbrev one_more : List (Bool × List ℕ)
  one_more = map row_seen (take (i + 1) items)

  separator-next : one_more ≡ so_far ++ row_seen row ∷ [] → (holds : Bool) → row.0 ≡ holds
      → separator_after [] one_more ≡ (if holds then codes ", " else separator_after [] so_far)
  separator-next next holds is =
      ap (separator_after []) next ∙ separator-more [] so_far (row_seen row)
      ∙ ap (λ (b : Bool). if b then codes ", " else separator_after [] so_far) is

  listed-next : one_more ≡ so_far ++ row_seen row ∷ [] → (holds : Bool) → row.0 ≡ holds
      → listed [] one_more ≡ listed [] so_far ++ added (separator_after [] so_far) (holds, row.1.now)
  listed-next next holds is =
      ap (listed []) next ∙ listed-more [] so_far (row_seen row)
      ∙ ap (λ (b : Bool). listed [] so_far ++ added (separator_after [] so_far) (b, row.1.now)) is

pub loop-row-init : goal.loop-row-init
loop-row-init g c = (search rules, refl, search rules)

pub loop-row-preserved : goal.loop-row-preserved
loop-row-preserved g c =
    let items = c.with_words-row-items.result in
    let i = c.loop-row.row-index in
    let row = get_or items i (false, record { ref_ptr = (0, 0); now = [] }) in
    let next : one_more items i row ≡ so_far items i row ++ row_seen row ∷ [] =
    ap (map row_seen) (take_more items i (false, record { ref_ptr = (0, 0); now = [] }) (search rules))
    ∙ map-append row_seen (take i items) (row ∷ []) in
    elim c.if-row.branch [
      | then-row+in_ok-write w ↦
          let comma : c.if-row.separator.now ≡ codes ", " = search rules in (
            search rules,
            comma ∙ sym (separator-next items i row next true w.if-row.true),
            λ plain.
                has_written_of_eq _ _ _ _ _
                (sym (listed-next items i row next true w.if-row.true
                ∙ ap (λ (s : List ℕ). listed [] (so_far items i row) ++ (s ++ row.1.now)) (sym c.loop-row.invariant.1)))
                (has_written_append _ _ _ _ _ _ (c.loop-row.invariant.2 plain) (search rules)),
          )
      | else-row w ↦
          let same : c.if-row.separator.now ≡ c.loop-row.separator.now = search rules in (
            search rules,
            same ∙ c.loop-row.invariant.1 ∙ sym (separator-next items i row next false w.if-row.false),
            λ plain.
                has_written_of_eq _ _ _ _ _
                (sym (listed-next items i row next false w.if-row.false ∙ append-nil (listed [] (so_far items i row))))
                (has_written_to_eq _ _ _ _ _ (search rules) (c.loop-row.invariant.2 plain)),
          )
    ]

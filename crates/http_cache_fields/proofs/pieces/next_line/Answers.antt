-- The next line is the first value that is text; other values are skipped.
use Rattle.std.proofs.Common.{refl, true≢false, sym, ap, ◌∙◌, ◌∷◌}
use Rattle.http_cache_fields.specs.Headers.{bytes_of}
use Rattle.http_cache_fields.specs.Pieces.{text_lines}
use Rattle.http_cache_fields.proofs.FieldLemmas.{is_visible_text-yes, is_visible_text-no}
use Rattle.http_cache_fields.proofs.PieceLemmas.{text_lines-yes, text_lines-no}
use Rattle.http_cache_fields.proofs.pieces.next_line.Goals as goal

pub returns-in-Ok : goal.returns-in-Ok
returns-in-Ok c =
    let v = c.in-Some.value.now in
    let rest = c.next.new.self in
    let visible = is_visible_text-yes v.bytes (c.in-Ok.ensures.succeeds.0 refl) in
    sym c.loop-value.invariant.2 ∙ ap (λ vs. text_lines (bytes_of vs)) c.in-Some.ensures.steps
    ∙ text_lines-yes v rest visible ∙ ap (λ l. l ∷ text_lines (bytes_of rest)) (sym c.in-Ok.ensures.ok)

pub loop-value-preserved : goal.loop-value-preserved
loop-value-preserved c =
    let v = c.in-Some.value.now in
    let rest = c.next.new.self in
    let hidden =
    is_visible_text-no v.bytes (λ seen. true≢false (sym (c.in_default-to_str.ensures.succeeds.1 seen))) in (
      tt,
      tt,
      sym (text_lines-no v rest hidden)
          ∙ ap (λ vs. text_lines (bytes_of vs)) (sym c.in-Some.ensures.steps) ∙ c.loop-value.invariant.2,
    )

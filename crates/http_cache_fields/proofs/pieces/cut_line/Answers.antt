-- A line is the piece before its first comma and those after it, or one piece.
use Rattle.std.proofs.Common.{Some, None, ap, sym, ◌∙◌, ◌∷◌, [], lit<}
use Rattle.std.proofs.lemmas.Str.Pattern.{split_once_first}
use Rattle.http_cache_fields.specs.Text.{trim}
use Rattle.http_cache_fields.specs.Pieces.{pieces_of_line}
use Rattle.http_cache_fields.proofs.PieceLemmas.{pieces_of_line-cut, pieces_of_line-whole}
use Rattle.http_cache_fields.proofs.pieces.cut_line.Goals as goal

pub returns-in-Some : goal.returns-in-Some
returns-in-Some c =
    let line = c.args.line.now in
    let at = split_once_first 44 line (Some (c.in-Some.piece, c.in-Some.rest)) c.in-Some.ensures.cases
    (lit< tt) in
    let piece = c.trim.ensures ∙ ap trim at.1 in
    pieces_of_line-cut line at.0 ∙ (λ i. sym piece i ∷ pieces_of_line (sym at.2 i))

pub returns-in-None : goal.returns-in-None
returns-in-None c =
    let line = c.args.line.now in
    let at = split_once_first 44 line None c.in-None.ensures.cases (lit< tt) in
    pieces_of_line-whole line at ∙ ap (λ p. p ∷ []) (sym c.trim-in-None.ensures)

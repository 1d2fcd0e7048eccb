-- Each piece is read as one more directive, if it has a name.
use Rattle.std.proofs.Common.{ℕ, List, length, Option, sym, subst, ap, ◌∙◌}
use Rattle.std.specs.Borrow.{Bor}
use Rattle.std.specs.Option.{option_copied}
use Rattle.std.proofs.lemmas.Iterator.Consumers.{YieldsList-end, YieldsList-turn, YieldsList-from_first}
use Rattle.std.proofs.lemmas.List.Elements.{All-from_recursion}
use Rattle.http_cache_fields.specs.Headers.{bytes_of}
use Rattle.http_cache_fields.specs.Pieces.{pieces_of_values}
use Rattle.http_cache_fields.specs.Directives.{name_of, directives, with_conflict}
use Rattle.http_cache_fields.specs.ReadMore.{read_of, read_more, IsDirectiveIfNamed}
use Rattle.http_cache_fields.proofs.ValidLemmas.{IsPiece, each-pieces_of_values, directive_of-is}
use Rattle.http_cache_fields.proofs.ReadLemmas.{named, named-push}
use Rattle.http_cache_fields.proofs.ReadMoreLemmas.{read_of-more}
use Rattle.http_cache_fields.proofs.reading.read.Goals as goal

pub loop-piece-preserved : goal.loop-piece-preserved
loop-piece-preserved c =
    let p = c.in-Some.piece in (
      tt,
      tt,
      c.in_ok-read.ensures
          ∙ (λ i. read_more (c.loop-piece.invariant.2 i) (c.split_piece.ensures.name i) (c.split_piece.ensures.value i))
          ∙ sym (ap read_of (named-push c.loop-piece.yielded p)
          ∙ read_of-more (named c.loop-piece.yielded) p.now),
    )

pub returns : goal.returns
returns c =
    let all = pieces_of_values (bytes_of c.args.all) in
    let start = c.into_iter-piece-iterator.ensures.into_iter_gives ∙ c.pieces_of-pieces.ensures in
    let seen = YieldsList-end
    (YieldsList-from_first (λ (x : Bor (List ℕ)). x.now) (λ s. s) all start) c.loop-piece.yielded _
    c.loop-piece.yielded_by _ _ c.in-None.is c.next.ensures.steps in
    ap (λ r. with_conflict r.conflict r.first) c.loop-piece.invariant.2 ∙ ap directives seen.0

pub with-requires : goal.with-requires
with-requires c =
    let all = pieces_of_values (bytes_of c.args.all) in
    let p = c.in-Some.piece in
    let start = c.into_iter-piece-iterator.ensures.into_iter_gives ∙ c.pieces_of-pieces.ensures in
    let at = YieldsList-turn
    (YieldsList-from_first (λ (x : Bor (List ℕ)). x.now) (λ s. s) all start) c.loop-piece.yielded _
    c.loop-piece.yielded_by _ _ p c.in-Some.is c.next.ensures.steps in
    let piece = subst IsPiece (sym at.1)
    (All-from_recursion IsPiece all (each-pieces_of_values (bytes_of c.args.all))
    (length c.loop-piece.yielded) p.now at.0) in
    subst (λ (n : List ℕ). IsDirectiveIfNamed n (option_copied c.split_piece.result.1)) (sym c.split_piece.ensures.name)
    (subst (λ (v : Option (List ℕ)). IsDirectiveIfNamed (name_of p.now) v) (sym c.split_piece.ensures.value)
    (directive_of-is p.now piece))

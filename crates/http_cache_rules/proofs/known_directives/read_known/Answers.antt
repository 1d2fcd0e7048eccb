-- Each piece is put at the index of its name, or added to the others.
use Rattle.std.proofs.Common.{◌≡◌, ℕ, List, codes, length, Option, Some, None, sym, subst, ap, ◌∙◌, ◌||◌, bytes_eq}
use Rattle.std.proofs.Common.{slice_index_or, slice_set}
use Rattle.std.specs.Borrow.{Bor}
use Rattle.std.specs.List.{position}
use Rattle.std.specs.Option.{option_map, option_copied}
use Rattle.std.proofs.lemmas.Iterator.Consumers.{YieldsList-end, YieldsList-turn, YieldsList-from_first}
use Rattle.std.proofs.lemmas.List.{length-set}
use Rattle.std.proofs.lemmas.List.Elements.{All-from_recursion}
use Rattle.http_cache_fields.specs.Headers.{headers_of, bytes_of, values}
use Rattle.http_cache_fields.specs.Pieces.{pieces_of_values, pieces_under}
use Rattle.http_cache_fields.specs.Directives.{name_of, raw_value_of}
use Rattle.http_cache_fields.specs.ReadMore.{read_more, IsDirectiveIfNamed}
use Rattle.http_cache_fields.proofs.HeadersLemmas.{values-headers_of}
use Rattle.http_cache_fields.proofs.ValidLemmas.{IsPiece, each-pieces_of_values, directive_of-is}
use Rattle.http_cache_fields.proofs.ReadLemmas.{named, named-push}
use Rattle.http_cache_fields.specs.Reading.{says_another}
use Rattle.http_cache_rules.specs.KnownDirectives.{asked_names, said_first, IsSaidBy, AreKnownDirectives}
use Rattle.http_cache_rules.proofs.KnownDirectivesLemmas.{known-asked, known-other, known-all}
use Rattle.http_cache_rules.proofs.known_directives.read_known.Goals as goal
use Rattle.http_cache_rules.proofs.known_directives.read_known.Goals.{then-others, else-others}

pub loop-piece-preserved-in-Some-index_of : goal.loop-piece-preserved-in-Some-index_of
loop-piece-preserved-in-Some-index_of c =
    let p = c.in-Some.piece in
    let asked = c.loop-piece.asked in
    let k = c.in-Some-index_of.index in
    let size : length asked ≡ length asked_names = c.loop-piece.invariant.2 in
    let at : position (bytes_eq (name_of p.now)) asked_names ≡ Some k =
    ap (λ (n : List ℕ). position (bytes_eq n) asked_names) (sym c.split_piece.ensures.name)
    ∙ sym c.index_of.ensures ∙ c.in-Some-index_of.is in
    let was : Option (Option (List ℕ)) = option_map option_copied (slice_index_or asked k None) in
    let raw = raw_value_of p.now in
    let first : option_copied c.said_first.result ≡ said_first was raw =
    c.said_first.ensures ∙ ap (said_first was) c.split_piece.ensures.value in
    let another : c.if-others.others ≡ (c.loop-piece.others.conflict || says_another was raw) =
    elim c.if-others.branch [
      | then-others w ↦ w.others-is ∙ w.if-others.true ∙ ap (λ b. b || says_another was raw) (sym w.if-others.true)
      | else-others w ↦ w.others-is ∙ w.says_another.ensures
          ∙ ap (says_another was) c.split_piece.ensures.value
          ∙ ap (λ b. b || says_another was raw) (sym w.if-others.false)
    ] in
    let more =
    known-asked (named c.loop-piece.yielded) p.now asked c.loop-piece.others.first c.loop-piece.others.conflict
    c.loop-piece.invariant.3 k None (Some c.said_first.result) c.if-others.others size at (ap Some first) another in (
      tt,
      tt,
      length-set asked k (Some c.said_first.result) ∙ size,
      subst (λ (ps : List (List ℕ)). IsSaidBy ps (slice_set asked k (Some c.said_first.result))
          c.loop-piece.others.first c.if-others.others)
          (sym (named-push c.loop-piece.yielded p)) more,
    )

pub loop-piece-preserved : goal.loop-piece-preserved
loop-piece-preserved c =
    let p = c.in-Some.piece in
    let at : position (bytes_eq (name_of p.now)) asked_names ≡ None =
    ap (λ (n : List ℕ). position (bytes_eq n) asked_names) (sym c.split_piece.ensures.name)
    ∙ sym c.index_of.ensures ∙ c.in-None-index_of.is in
    let r = c.in_ok-others-in-None-index_of.others in
    let read = c.in_ok-others-in-None-index_of.ensures
    ∙ (λ i. read_more c.loop-piece.others (c.split_piece.ensures.name i) (c.split_piece.ensures.value i)) in
    let more =
    known-other (named c.loop-piece.yielded) p.now c.loop-piece.asked c.loop-piece.others.first
    c.loop-piece.others.conflict c.loop-piece.invariant.3 r at read in (
      tt,
      tt,
      c.loop-piece.invariant.2,
      subst (λ (ps : List (List ℕ)). IsSaidBy ps c.loop-piece.asked r.first r.conflict)
          (sym (named-push c.loop-piece.yielded p)) more,
    )

pub returns : goal.returns
returns c =
    let all = pieces_under (headers_of c.args.headers.now) (codes "cache-control") in
    let start = c.into_iter-piece-iterator.ensures.into_iter_gives ∙ c.pieces_of-pieces.ensures
    ∙ ap (λ vs. pieces_of_values (bytes_of vs)) c.get_all-lines.ensures.value
    ∙ ap pieces_of_values (sym (values-headers_of c.args.headers.now (codes "cache-control"))) in
    let seen = YieldsList-end
    (YieldsList-from_first (λ (x : Bor (List ℕ)). x.now) (λ s. s) all start) c.loop-piece.yielded _
    c.loop-piece.yielded_by _ _ c.in-None.is c.next.ensures.steps in
    subst (λ (ps : List (List ℕ)). AreKnownDirectives ps c.loop-piece.asked c.loop-piece.others.conflict) seen.0
    (known-all _ c.loop-piece.asked c.loop-piece.others.first c.loop-piece.others.conflict
    c.loop-piece.invariant.2 c.loop-piece.invariant.3)

pub with-requires : goal.with-requires
with-requires c =
    let lines = values (headers_of c.args.headers.now) (codes "cache-control") in
    let all = pieces_under (headers_of c.args.headers.now) (codes "cache-control") in
    let p = c.in-Some.piece in
    let start = c.into_iter-piece-iterator.ensures.into_iter_gives ∙ c.pieces_of-pieces.ensures
    ∙ ap (λ vs. pieces_of_values (bytes_of vs)) c.get_all-lines.ensures.value
    ∙ ap pieces_of_values (sym (values-headers_of c.args.headers.now (codes "cache-control"))) in
    let at = YieldsList-turn
    (YieldsList-from_first (λ (x : Bor (List ℕ)). x.now) (λ s. s) all start) c.loop-piece.yielded _
    c.loop-piece.yielded_by _ _ p c.in-Some.is c.next.ensures.steps in
    let piece = subst IsPiece (sym at.1)
    (All-from_recursion IsPiece all (each-pieces_of_values lines) (length c.loop-piece.yielded) p.now at.0) in
    subst (λ (n : List ℕ). IsDirectiveIfNamed n (option_copied c.split_piece.result.1)) (sym c.split_piece.ensures.name)
    (subst (λ (v : Option (List ℕ)). IsDirectiveIfNamed (name_of p.now) v) (sym c.split_piece.ensures.value)
    (directive_of-is p.now piece))

-- The pieces that were read are all of the Vary lines.
use Rattle.std.proofs.Common.{◌∙◌, ap, List, ℕ, Bor, codes, fold}
use Rattle.std.proofs.lemmas.Iterator.Consumers.{YieldsList-end, YieldsList-from_first}
use Rattle.http_cache_fields.specs.Headers.{headers_of}
use Rattle.http_cache_fields.specs.Pieces.{pieces_under}
use Rattle.http_cache_walk.specs.Sources.{sources_seen, source_in}
use Rattle.http_cache_walk.specs.Assume.{assumed_seen, with_piece, with_response}
use Rattle.http_cache_walk.proofs.assume.AssumedRequest.assume.Goals as goal

pub returns : goal.returns
unfolding with_response
returns c =
    let all = pieces_under (headers_of c.args.response.now) (codes "vary") in
    let start = c.into_iter-piece-iterator.ensures.into_iter_gives ∙ c.pieces_under-piece-items.ensures in
    let seen = YieldsList-end
    (YieldsList-from_first (λ (x : Bor (List ℕ)). x.now) (λ s. s) all start) c.loop-piece.yielded _
    c.loop-piece.yielded_by _ _ c.in-None.is c.next.ensures.steps in
    c.loop-piece.invariant.2
    ∙ ap (fold (with_piece (source_in (sources_seen c.args.sources.now) c.args.target.now)) (assumed_seen c.args.self.now)) seen.0

-- What the pieces ask, read one by one, is what the Cache-Control directives ask.
use Rattle.std.proofs.Common.{ℕ, List, codes, ap, ◌∙◌}
use Rattle.std.specs.Borrow.{Bor}
use Rattle.std.proofs.lemmas.Iterator.Consumers.{YieldsList-end, YieldsList-from_first}
use Rattle.http_cache_fields.specs.Headers.{headers_of}
use Rattle.http_cache_fields.specs.Pieces.{pieces_under}
use Rattle.http_cache_rules.specs.Asks.{requested_by_pieces}
use Rattle.http_cache_rules.proofs.AskLemmas.{asked-by_directives}
use Rattle.http_cache_rules.proofs.asks.directives_of_request.Goals as goal

pub returns : goal.returns
returns c =
    let all = pieces_under (headers_of c.args.request.now) (codes "cache-control") in
    let start = c.into_iter-piece-iterator.ensures.into_iter_gives ∙ c.pieces_under-piece-items.ensures in
    let seen = YieldsList-end
    (YieldsList-from_first (λ (x : Bor (List ℕ)). x.now) (λ s. s) all start) c.loop-piece.yielded _
    c.loop-piece.yielded_by _ _ c.in-None.is c.next.ensures.steps in
    c.loop-piece.invariant.2 ∙ ap requested_by_pieces seen.0 ∙ asked-by_directives all

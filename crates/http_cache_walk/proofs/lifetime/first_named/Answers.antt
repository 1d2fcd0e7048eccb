-- The pieces are examined in turn.
use Rattle.std.proofs.Common.{rules, tests}
use Rattle.std.proofs.lemmas.Iterator.Consumers.{YieldsList-from_first}
use Rattle.std.proofs.lemmas.Iterator.Search.{find_from_yields_List}
use Rattle.http_cache_fields.specs.Headers.{headers_of}
use Rattle.http_cache_walk.specs.Lifetime.{cache_pieces, is_named}
use Rattle.http_cache_walk.proofs.lifetime.first_named.Goals as goal

pub returns : goal.returns
returns c = λ low.
    find_from_yields_List (is_named c.args.name.now) c.find.new.self _ c.find.result c.find.ensures.ran
    (YieldsList-from_first (λ x. x.now) (λ s. s) (cache_pieces (headers_of c.args.headers.now)) c.pieces_under.ensures)
    (λ x b q k. search (rules, tests, low))

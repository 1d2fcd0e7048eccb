-- The entry is one for the store, or not, and leaves the shelves accordingly.
use Rattle.std.proofs.Common.{◌∙◌, sym}
use Rattle.std.proofs.lemmas.Result.{on_ok_weaker}
use Rattle.http_cache_walk.specs.Order.{sent_seen}
use Rattle.http_cache_walk.specs.Sources.{sources_seen}
use Rattle.http_cache_walk.specs.Walk.{walk_seen, walked_in, shelf_at}
use Rattle.http_cache_walk.proofs.WalkLemmas.{left_asked, left_passed}
use Rattle.http_cache_walk.proofs.walk.Walk.row.Goals as goal

pub returns-then-asks_store-clause-left : goal.returns-then-asks_store-clause-left
returns-then-asks_store-clause-left c =
    on_ok_weaker c.ask.result (left_asked (walk_seen c.args.self.now)
    (walked_in (sources_seen c.args.sources.now) (sent_seen c.args.sent.now))
    (shelf_at c.args.shelves.now) (shelf_at c.ask.new.shelves) (sym c.asks_store.ensures ∙ c.if-asks_store.true))
    c.ask.ensures.left

pub returns-else-asks_store-clause-left : goal.returns-else-asks_store-clause-left
returns-else-asks_store-clause-left c =
    on_ok_weaker c.pass.result (left_passed (walk_seen c.args.self.now)
    (walked_in (sources_seen c.args.sources.now) (sent_seen c.args.sent.now))
    (shelf_at c.args.shelves.now) (shelf_at c.pass.new.shelves) (sym c.asks_store.ensures ∙ c.if-asks_store.false))
    c.pass.ensures.left

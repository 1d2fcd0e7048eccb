-- A Date is kept, or the time of receipt is added.
use Rattle.std.proofs.Common.{sym, ◌∙◌}
use Rattle.http_cache_fields.specs.Headers.{headers_of}
use Rattle.http_cache_decisions.proofs.HeadLemmas.{still-undated, IsStoredDate-added, KeepsOthers-added}
use Rattle.http_cache_decisions.proofs.head.store_date.Goals as goal

pub returns-then-not-contains_key-clause-undated : goal.returns-then-not-contains_key-clause-undated
returns-then-not-contains_key-clause-undated c = λ _.
    still-undated c.args.received.nanosecond (headers_of c.args.headers.now) (headers_of c.add_date.new.headers)
    c.in_ok-add_date.ensures.dated (sym c.contains_key.ensures ∙ c.if-contains_key.false)
    (sym c.contains_key-2.ensures ∙ c.if-not-contains_key.true)

pub returns-clause-date : goal.returns-clause-date
returns-clause-date c =
    IsStoredDate-added c.args.received.nanosecond (headers_of c.args.headers.now) (headers_of c.add_date.new.headers)
    c.in_ok-add_date.ensures.dated (sym c.contains_key.ensures ∙ c.if-contains_key.false)
    (sym c.contains_key-2.ensures ∙ c.if-not-contains_key.false)

pub returns-clause-others : goal.returns-clause-others
returns-clause-others c =
    KeepsOthers-added c.args.received.nanosecond (headers_of c.args.headers.now) (headers_of c.add_date.new.headers)
    c.in_ok-add_date.ensures.dated (sym c.contains_key.ensures ∙ c.if-contains_key.false)

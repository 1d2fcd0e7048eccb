-- The date of the same time is the only line.
use Rattle.std.proofs.Common.{ℤ, Option, subst}
use Rattle.std.specs.FinMap as fin
use Rattle.http_cache_fields.specs.Headers.{headers_of}
use Rattle.http_cache_decisions.specs.StoredHead.{AreFixed}
use Rattle.http_cache_decisions.proofs.HeadLemmas.{set-is}
use Rattle.http_cache_decisions.proofs.head.fix_date.Goals as goal

pub returns-clause-date : goal.returns-clause-date
returns-clause-date c =
    let old = headers_of c.args.headers.now in
    let new = headers_of c.replace.new.map in
    let name = c.args.name in
    let value = rw c.in-Some-2.is at c.in_ok-date.ensures in
    subst (λ (o : Option ℤ). AreFixed o (fin.get old name) (fin.get new name)) c.in-Some.ensures.time
    (c.in-Some-2.date.bytes, value.1, (set-is old new name c.in-Some-2.date.bytes c.replace.ensures).0)

pub returns-clause-others : goal.returns-clause-others
returns-clause-others c =
    (set-is (headers_of c.args.headers.now) (headers_of c.replace.new.map) c.args.name c.in-Some-2.date.bytes
    c.replace.ensures).1

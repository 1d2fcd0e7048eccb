-- If no Date is to be sent, none is among the headers that are sent on.
use Rattle.std.proofs.Common.{◌≡◌, ◌≤◌, List, [], ℕ, length, codes, Option, unwrap_or, ap, sym, subst, ◌∙◌, arith}
use Rattle.std.specs.FinMap as fin
use Rattle.std.proofs.lemmas.Result.{IfOk-weaker}
use Rattle.http_cache_fields.specs.Headers.{headers_of, values, IsAbsent}
use Rattle.http_cache_rules.specs.Filter.{filtered_headers}
use Rattle.http_cache_policy.proofs.BesideDateLemmas.{remove-absent, filtered-no_date}
use Rattle.http_cache_policy.proofs.policy.CachePolicy.handed_on.Goals as goal

pub returns-else-dated-clause-beside : goal.returns-else-dated-clause-beside
returns-else-dated-clause-beside c =
    let h = headers_of c.stored_headers-else-dated.result.now in
    IfOk-weaker c.filter.result (λ out. headers_of out ≡ filtered_headers h)
    (λ out. fin.remove (headers_of out) (codes "date") ≡ filtered_headers c.args.self.now.response_headers)
    (λ out is. remove-absent (headers_of out) (codes "date") (filtered-no_date h (headers_of out) is)
    ∙ is ∙ ap filtered_headers c.stored_headers-else-dated.ensures.headers)
    c.filter.ensures.ok

pub returns-else-dated-clause-undated : goal.returns-else-dated-clause-undated
returns-else-dated-clause-undated c = λ _.
    let h = headers_of c.stored_headers-else-dated.result.now in
    IfOk-weaker c.filter.result (λ out. headers_of out ≡ filtered_headers h)
    (λ out. IsAbsent (headers_of out) (codes "date")) (λ out. filtered-no_date h (headers_of out)) c.filter.ensures.ok

pub returns-else-dated-clause-one_date : goal.returns-else-dated-clause-one_date
returns-else-dated-clause-one_date c =
    let h = headers_of c.stored_headers-else-dated.result.now in
    IfOk-weaker c.filter.result (λ out. headers_of out ≡ filtered_headers h)
    (λ out. length (values (headers_of out) (codes "date")) ≤ 1)
    (λ out is. subst (λ (o : Option (List (List ℕ))). length (unwrap_or o []) ≤ 1)
    (sym (filtered-no_date h (headers_of out) is)) (omega arith))
    c.filter.ensures.ok

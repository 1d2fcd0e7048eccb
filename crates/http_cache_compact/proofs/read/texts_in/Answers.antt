-- Each text begins where the one before it ends.
use Rattle.std.proofs.Common.{◌≡◌, rules, [], length, drop, refl}
use Rattle.http_cache_compact.specs.Compact.{number_4}
use Rattle.http_cache_compact.proofs.TextLemmas.{none_holds, same_cut, same_fields, no_method, no_target, no_request, no_response, no_end, all_texts}
use Rattle.http_cache_compact.proofs.read.texts_in.Goals as goal

pub returns-in_err-method-clause-none : goal.returns-in_err-method-clause-none
returns-in_err-method-clause-none c =
    none_holds c.from_residual.result _ (no_method c.args.bytes.now
    (same_cut c.number_4.result (number_4 c.args.bytes.now 36) c.split_at.result.1.now (drop 52 c.args.bytes.now) _
    c.number_4.ensures c.split_at.ensures.back c.in_err-method.ensures.none))

pub returns-in_err-target-clause-none : goal.returns-in_err-target-clause-none
returns-in_err-target-clause-none c =
    let first = same_cut c.number_4.result (number_4 c.args.bytes.now 36) c.split_at.result.1.now (drop 52 c.args.bytes.now) _
    c.number_4.ensures c.split_at.ensures.back c.in_ok-method.ensures.some in
    none_holds c.from_residual-in_err-target.result _ (no_target c.args.bytes.now c.in_ok-method.method.front.now c.in_ok-method.method.rest.now first
    (same_cut c.number_4-2.result (number_4 c.args.bytes.now 40) c.in_ok-method.method.rest.now
    c.in_ok-method.method.rest.now _ c.number_4-2.ensures refl c.in_err-target.ensures.none))

pub returns-in_err-response-clause-none : goal.returns-in_err-response-clause-none
returns-in_err-response-clause-none c =
    let first = same_cut c.number_4.result (number_4 c.args.bytes.now 36) c.split_at.result.1.now (drop 52 c.args.bytes.now) _
    c.number_4.ensures c.split_at.ensures.back c.in_ok-method.ensures.some in
    let second = same_cut c.number_4-2.result (number_4 c.args.bytes.now 40) c.in_ok-method.method.rest.now
    c.in_ok-method.method.rest.now _ c.number_4-2.ensures refl c.in_ok-target.ensures.some in
    none_holds c.from_residual-in_err-response.result _ (no_request c.args.bytes.now c.in_ok-method.method.front.now c.in_ok-method.method.rest.now
    c.in_ok-target.target.front.now c.in_ok-target.target.rest.now first second
    (same_fields c.number_4-3.result (number_4 c.args.bytes.now 44) c.in_ok-target.target.rest.now _
    c.number_4-3.ensures c.in_err-response.ensures.none))

pub returns-in_err-end-clause-none : goal.returns-in_err-end-clause-none
returns-in_err-end-clause-none c =
    let first = same_cut c.number_4.result (number_4 c.args.bytes.now 36) c.split_at.result.1.now (drop 52 c.args.bytes.now) _
    c.number_4.ensures c.split_at.ensures.back c.in_ok-method.ensures.some in
    let second = same_cut c.number_4-2.result (number_4 c.args.bytes.now 40) c.in_ok-method.method.rest.now
    c.in_ok-method.method.rest.now _ c.number_4-2.ensures refl c.in_ok-target.ensures.some in
    let (asked, asks) = c.in_ok-response.ensures.some in
    let third = same_fields c.number_4-3.result (number_4 c.args.bytes.now 44) c.in_ok-target.target.rest.now _
    c.number_4-3.ensures asks in
    none_holds c.from_residual-in_err-end.result _ (no_response c.args.bytes.now c.in_ok-method.method.front.now c.in_ok-method.method.rest.now
    c.in_ok-target.target.front.now c.in_ok-target.target.rest.now asked
    c.in_ok-response.response.now first second third
    (same_fields c.number_4-4.result (number_4 c.args.bytes.now 48) c.in_ok-response.response.now _
    c.number_4-4.ensures c.in_err-end.ensures.none))

pub returns-then-not-is_empty-clause-none : goal.returns-then-not-is_empty-clause-none
returns-then-not-is_empty-clause-none c =
    let first = same_cut c.number_4.result (number_4 c.args.bytes.now 36) c.split_at.result.1.now (drop 52 c.args.bytes.now) _
    c.number_4.ensures c.split_at.ensures.back c.in_ok-method.ensures.some in
    let second = same_cut c.number_4-2.result (number_4 c.args.bytes.now 40) c.in_ok-method.method.rest.now
    c.in_ok-method.method.rest.now _ c.number_4-2.ensures refl c.in_ok-target.ensures.some in
    let (asked, asks) = c.in_ok-response.ensures.some in
    let third = same_fields c.number_4-3.result (number_4 c.args.bytes.now 44) c.in_ok-target.target.rest.now _
    c.number_4-3.ensures asks in
    let (answered, answers) = c.in_ok-end.ensures.some in
    let fourth = same_fields c.number_4-4.result (number_4 c.args.bytes.now 48) c.in_ok-response.response.now _
    c.number_4-4.ensures answers in
    let some : c.in_ok-end.end.now ≡ [] → ⊥ = search rules in
    no_end c.args.bytes.now c.in_ok-method.method.front.now c.in_ok-method.method.rest.now
    c.in_ok-target.target.front.now c.in_ok-target.target.rest.now asked c.in_ok-response.response.now answered
    c.in_ok-end.end.now first second third fourth some

pub returns-clause-some : goal.returns-clause-some
returns-clause-some c =
    let first = same_cut c.number_4.result (number_4 c.args.bytes.now 36) c.split_at.result.1.now (drop 52 c.args.bytes.now) _
    c.number_4.ensures c.split_at.ensures.back c.in_ok-method.ensures.some in
    let second = same_cut c.number_4-2.result (number_4 c.args.bytes.now 40) c.in_ok-method.method.rest.now
    c.in_ok-method.method.rest.now _ c.number_4-2.ensures refl c.in_ok-target.ensures.some in
    let (asked, asks) = c.in_ok-response.ensures.some in
    let third = same_fields c.number_4-3.result (number_4 c.args.bytes.now 44) c.in_ok-target.target.rest.now _
    c.number_4-3.ensures asks in
    let (answered, answers) = c.in_ok-end.ensures.some in
    let fourth = same_fields c.number_4-4.result (number_4 c.args.bytes.now 48) c.in_ok-response.response.now _
    c.number_4-4.ensures answers in
    let none : length c.in_ok-end.end.now ≡ 0 = search rules in
    all_texts c.args.bytes.now c.in_ok-method.method.front.now c.in_ok-method.method.rest.now
    c.in_ok-target.target.front.now c.in_ok-target.target.rest.now asked c.in_ok-response.response.now answered
    c.in_ok-end.end.now first second third fourth none

-- The policies are the only chain. Each ages like the first and, if its lifetime is explicit,
-- expires like it.
use Rattle.std.proofs.Common.{rules, ◌≡◌, ◌+◌, ◌<◌, [], ◌∷◌, drop, length, Err, refl, sym, subst, ◌∙◌, arith}
use Rattle.http_cache_fields.specs.declared.error.CacheError.TheVariants.{HeaderMapFull, DateNotPrintable}
use Rattle.http_cache_rules.specs.Options.{options_of}
use Rattle.http_cache_policy.specs.Kept.{kept_exchange}
use Rattle.http_cache_semantics.specs.Chain.{IsFor, first_kept, nanoseconds}
use Rattle.http_cache_policy.proofs.KeptLemmas.{kept-settled}
use Rattle.http_cache_semantics.proofs.ChainLemmas.{IsFor-first, HasReached}
use Rattle.http_cache_semantics.proofs.ChainLemmas.{reached-first, reached-some, reached-last}
use Rattle.http_cache_semantics.proofs.ChainLemmas.{turn-refused, turn-undated, turn-stops}
use Rattle.http_cache_semantics.proofs.ChainLemmas.{turn-stops_unrefused, turn-stops_dated}
use Rattle.http_cache_semantics.proofs.ChainLemmas.{turn-next, turns-end, turns-end_unrefused}
use Rattle.http_cache_semantics.proofs.ChainLemmas.{turns-end_dated, each-received}
use Rattle.http_cache_semantics.proofs.ChainLemmas.{each-aged, each-says, each-expires}
use Rattle.http_cache_semantics.proofs.ChainUniqueLemmas.{chain-unique}
use Rattle.http_cache_semantics.proofs.chain.chain.Goals as goal

pub loop-moment-init : goal.loop-moment-init
unfolding kept_exchange
loop-moment-init g c =
    let request = g.Req.RequestLike.seen c.args.req.now in
    let response = g.Res.ResponseLike.seen c.args.res.now in
    let first = first_kept request response (options_of c.args.opts) c.args.received.nanosecond in
    let ms = nanoseconds c.args.moments.now in
    let alone : c.push.new.self.items ≡ first ∷ [] =
    rw (c.in_ok-push.ensures.items, c.new-policies.ensures.items, c.in_ok-new_options.ensures.value) refl in
    subst (HasReached request first ms ms) (sym alone)
    (reached-first request first ms
    (IsFor-first request response (options_of c.args.opts) c.args.received.nanosecond))

pub overflow_sub-last : goal.overflow_sub-last
overflow_sub-last g c =
    let some : 0 < length c.loop-moment.policies.items = reached-some _ _ _ _ _ c.loop-moment.invariant in
    omega (arith, c.len-last.ensures, c.loop-moment.policies.ok.0, some)

pub hand_on-requires : goal.hand_on-requires
unfolding kept_exchange
hand_on-requires g c =
    let so_far = c.loop-moment.invariant in
    let last : c.index.result.now ≡ so_far.last =
    reached-last _ _ _ _ _ so_far c.len-last.result c.index.result.now
    (c.len-last.ensures ∙ c.loop-moment.policies.ok.0) c.index.ensures in
    subst (IsFor (g.Req.RequestLike.seen c.args.req.now) (options_of c.args.opts)) (sym last) so_far.is_for

pub returns-in_err-next-clause-full : goal.returns-in_err-next-clause-full
returns-in_err-next-clause-full g c = λ is.
    let request = g.Req.RequestLike.seen c.args.req.now in
    let response = g.Res.ResponseLike.seen c.args.res.now in
    let first = first_kept request response (options_of c.args.opts) c.args.received.nanosecond in
    let failed : c.hand_on.result ≡ Err HeaderMapFull = search rules in
    turn-refused request first c.args.moments.now c.loop-moment.moment-index c.moment-item.result
    c.loop-moment-test.true c.moment-item.is c.loop-moment.policies.items c.loop-moment.invariant
    c.len-last.result (c.len-last.ensures ∙ c.loop-moment.policies.ok.0) c.index.result.now c.index.ensures
    (c.hand_on.ensures.full failed)

pub returns-in_err-next-clause-unprintable : goal.returns-in_err-next-clause-unprintable
returns-in_err-next-clause-unprintable g c = λ is.
    let request = g.Req.RequestLike.seen c.args.req.now in
    let response = g.Res.ResponseLike.seen c.args.res.now in
    let first = first_kept request response (options_of c.args.opts) c.args.received.nanosecond in
    let failed : c.hand_on.result ≡ Err DateNotPrintable = search rules in
    turn-undated request first c.args.moments.now c.loop-moment.moment-index c.moment-item.result
    c.loop-moment-test.true c.moment-item.is c.loop-moment.policies.items c.loop-moment.invariant
    c.len-last.result (c.len-last.ensures ∙ c.loop-moment.policies.ok.0) c.index.result.now c.index.ensures
    (c.hand_on.ensures.unprintable failed)

pub loop-moment-preserved : goal.loop-moment-preserved
loop-moment-preserved g c =
    let request = g.Req.RequestLike.seen c.args.req.now in
    let response = g.Res.ResponseLike.seen c.args.res.now in
    let first = first_kept request response (options_of c.args.opts) c.args.received.nanosecond in
    let ms = nanoseconds c.args.moments.now in
    let handed = rw c.in-Some.is at c.in_ok-next.ensures.next in
    subst (HasReached request first ms (drop (c.loop-moment.moment-index + 1) ms)) (sym c.in_ok-push-2.ensures.items)
    (turn-next request first c.args.moments.now c.loop-moment.moment-index c.moment-item.result
    c.loop-moment-test.true c.moment-item.is c.loop-moment.policies.items c.loop-moment.invariant
    c.len-last.result (c.len-last.ensures ∙ c.loop-moment.policies.ok.0) c.index.result.now c.index.ensures
    c.in-Some.next handed.0 handed.1 c.in_ok-next.ensures.room c.in_ok-next.ensures.dated)

pub returns-in_default-clause-policies : goal.returns-in_default-clause-policies
returns-in_default-clause-policies g c =
    let request = g.Req.RequestLike.seen c.args.req.now in
    let response = g.Res.ResponseLike.seen c.args.res.now in
    let first = first_kept request response (options_of c.args.opts) c.args.received.nanosecond in
    turn-stops request first c.args.moments.now c.loop-moment.moment-index c.moment-item.result
    c.loop-moment-test.true c.moment-item.is c.loop-moment.policies.items c.loop-moment.invariant
    c.len-last.result (c.len-last.ensures ∙ c.loop-moment.policies.ok.0) c.index.result.now c.index.ensures
    (rw c.in_default.is at c.in_ok-next.ensures.next)

pub returns-in_default-clause-room : goal.returns-in_default-clause-room
returns-in_default-clause-room g c =
    let request = g.Req.RequestLike.seen c.args.req.now in
    let response = g.Res.ResponseLike.seen c.args.res.now in
    let first = first_kept request response (options_of c.args.opts) c.args.received.nanosecond in
    turn-stops_unrefused request first c.args.moments.now c.loop-moment.moment-index c.moment-item.result
    c.loop-moment-test.true c.moment-item.is c.loop-moment.policies.items c.loop-moment.invariant
    c.len-last.result (c.len-last.ensures ∙ c.loop-moment.policies.ok.0) c.index.result.now c.index.ensures
    (rw c.in_default.is at c.in_ok-next.ensures.next) c.in_ok-next.ensures.room

pub returns-in_default-clause-dated : goal.returns-in_default-clause-dated
returns-in_default-clause-dated g c =
    let request = g.Req.RequestLike.seen c.args.req.now in
    let response = g.Res.ResponseLike.seen c.args.res.now in
    let first = first_kept request response (options_of c.args.opts) c.args.received.nanosecond in
    turn-stops_dated request first c.args.moments.now c.loop-moment.moment-index c.moment-item.result
    c.loop-moment-test.true c.moment-item.is c.loop-moment.policies.items c.loop-moment.invariant
    c.len-last.result (c.len-last.ensures ∙ c.loop-moment.policies.ok.0) c.index.result.now c.index.ensures
    (rw c.in_default.is at c.in_ok-next.ensures.next) c.in_ok-next.ensures.dated

pub returns-in_default-clause-alone : goal.returns-in_default-clause-alone
returns-in_default-clause-alone g c = λ others other.
    chain-unique _ _ _ others c.loop-moment.policies.items other (returns-in_default-clause-policies g c)

pub returns-in_default-clause-received : goal.returns-in_default-clause-received
unfolding kept_exchange
returns-in_default-clause-received g c =
    each-received _ _ _ c.loop-moment.policies.items (returns-in_default-clause-policies g c)

pub returns-in_default-clause-ages : goal.returns-in_default-clause-ages
unfolding kept_exchange
returns-in_default-clause-ages g c =
    each-aged _ _ _ c.loop-moment.policies.items (returns-in_default-clause-policies g c)

pub returns-in_default-clause-steady : goal.returns-in_default-clause-steady
unfolding kept_exchange
returns-in_default-clause-steady g c =
    each-says _ _ _ c.loop-moment.policies.items (returns-in_default-clause-policies g c)
    (kept-settled _)

pub returns-in_default-clause-lifetimes : goal.returns-in_default-clause-lifetimes
unfolding kept_exchange
returns-in_default-clause-lifetimes g c =
    each-expires _ _ _ c.loop-moment.policies.items (returns-in_default-clause-policies g c)
    (kept-settled _)

pub returns-clause-policies : goal.returns-clause-policies
returns-clause-policies g c =
    let request = g.Req.RequestLike.seen c.args.req.now in
    let response = g.Res.ResponseLike.seen c.args.res.now in
    let first = first_kept request response (options_of c.args.opts) c.args.received.nanosecond in
    turns-end request first c.args.moments.now c.loop-moment.moment-index
    c.loop-moment-test.false c.loop-moment.policies.items c.loop-moment.invariant

pub returns-clause-room : goal.returns-clause-room
returns-clause-room g c =
    let request = g.Req.RequestLike.seen c.args.req.now in
    let response = g.Res.ResponseLike.seen c.args.res.now in
    let first = first_kept request response (options_of c.args.opts) c.args.received.nanosecond in
    turns-end_unrefused request first c.args.moments.now c.loop-moment.moment-index
    c.loop-moment-test.false c.loop-moment.policies.items c.loop-moment.invariant

pub returns-clause-dated : goal.returns-clause-dated
returns-clause-dated g c =
    let request = g.Req.RequestLike.seen c.args.req.now in
    let response = g.Res.ResponseLike.seen c.args.res.now in
    let first = first_kept request response (options_of c.args.opts) c.args.received.nanosecond in
    turns-end_dated request first c.args.moments.now c.loop-moment.moment-index
    c.loop-moment-test.false c.loop-moment.policies.items c.loop-moment.invariant

pub returns-clause-alone : goal.returns-clause-alone
returns-clause-alone g c = λ others other.
    chain-unique _ _ _ others c.loop-moment.policies.items other (returns-clause-policies g c)

pub returns-clause-received : goal.returns-clause-received
unfolding kept_exchange
returns-clause-received g c =
    each-received _ _ _ c.loop-moment.policies.items (returns-clause-policies g c)

pub returns-clause-ages : goal.returns-clause-ages
unfolding kept_exchange
returns-clause-ages g c =
    each-aged _ _ _ c.loop-moment.policies.items (returns-clause-policies g c)

pub returns-clause-steady : goal.returns-clause-steady
unfolding kept_exchange
returns-clause-steady g c =
    each-says _ _ _ c.loop-moment.policies.items (returns-clause-policies g c) (kept-settled _)

pub returns-clause-lifetimes : goal.returns-clause-lifetimes
unfolding kept_exchange
returns-clause-lifetimes g c =
    each-expires _ _ _ c.loop-moment.policies.items (returns-clause-policies g c) (kept-settled _)

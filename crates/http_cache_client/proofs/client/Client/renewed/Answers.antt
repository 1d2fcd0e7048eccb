-- The 304 confirms the stored response that has the id.
use Rattle.std.proofs.Common.{◌≡◌, ℕ, List, true, Option, Some, None, ap, sym, subst, IfSome, inr, rules}
use Rattle.http_cache_rules.specs.Options.{options_of}
use Rattle.http_cache_rules.specs.declared.options.CacheOptions.{CacheOptions}
use Rattle.http_cache_store.specs.Store.{StoredByTarget, ShowsAll}
use Rattle.http_cache_store.specs.Target.{text_of}
use Rattle.http_cache_store.specs.declared.store.ResponseId.{ResponseId}
use Rattle.http_cache_decisions.specs.Renewal.{IsRenewalOf}
use Rattle.http_cache_decisions.specs.declared.renewal.Renewal.{Renewal}
use Rattle.http_cache_client.specs.Contact.{IsLost, MayFail}
use Rattle.http_cache_client.specs.Receive.{own_text}
use Rattle.http_cache_client.specs.Taken.{IsArrival, IsConfirmed, IsUnconfirmedFor}
use Rattle.http_cache_client.proofs.RenewalLemmas.{by_renewal-from, confirmed, if-some, lost, unconfirmed}
use Rattle.http_cache_client.proofs.client.Client.renewed.Goals as goal

pub returns-clause-confirmed : goal.returns-clause-confirmed
returns-clause-confirmed g c request response of at own =
    let mark = g.S.Store.mark in
    let may_fail = MayFail g.S.Store.can_fail in
    let stored = g.S.Store.stored in
    let next_id = g.S.Store.next_id in
    let lasting = g.S.Store.lasting in
    let old = c.args.self.now.store in
    let mid = c.read.new.self.store in
    let new = c.confirmed.new.self.store in
    let arrived = c.args.arrived.now in
    let times = arrived.times.now in
    let options = options_of c.args.self.now.options in
    let id = c.in-Some.id in
    let text = text_of c.args.target.now in
    let found = c.found-stored.result.now in
    let renewal = c.in-Some-renewal.renewal in
    let is_read : c.in_ok-read.field-0 ≡ true = search rules in
    let shows : ShowsAll mark found (stored old (own_text request)) =
    subst (λ (t : List ℕ). ShowsAll mark found (stored old t)) own
    (subst (λ (s : StoredByTarget). ShowsAll mark found (s text)) c.in_ok-read.ensures.kept.stored
    (c.found-stored.ensures (c.in_ok-read.ensures.read is_read))) in
    let renews : IsRenewalOf arrived options id found (Some renewal) =
    subst (λ (o : CacheOptions). IsRenewalOf arrived (options_of o) id found (Some renewal)) c.in_ok-read.ensures.options
    (subst (λ (r : Option Renewal). IsRenewalOf arrived (options_of c.read.new.self.options) id found r) c.in-Some-renewal.is
    c.in_ok-renewal.ensures.renewal) in
    let of_id : IsArrival request response (Some id) times arrived =
    subst (λ (i : Option ResponseId). IsArrival request response i times arrived) c.in-Some.is of in
    let Confirmed : Option ResponseId → Type 0 = λ i. IfSome c.in_ok-answer.answer (IsConfirmed mark may_fail options request
    times i (stored old) (next_id old) (stored new) (next_id new) (lasting old) response) in
    subst Confirmed (sym c.in-Some.is)
    (if-some _ _
    (λ x by. confirmed mark may_fail options request times id (stored old) (next_id old) (stored new) (next_id new) (lasting old)
    found shows (next_id old) (g.met.S.Store.ids_below old (own_text request)) response x arrived of_id renewal renews
    (by_renewal-from mark may_fail times.received.nanosecond c.args.receipt.now.received.nanosecond (own_text request) text
    (stored old) (stored mid) (next_id old) (next_id mid) (stored new) (next_id new) (lasting old) (lasting mid) renewal x at own
    c.in_ok-read.ensures.kept.stored c.in_ok-read.ensures.kept.next_id c.in_ok-read.ensures.lasting by))
    c.in_ok-answer.answer c.in_ok-answer.ensures.answer)

pub returns-in_default-renewal-clause-unconfirmed : goal.returns-in_default-renewal-clause-unconfirmed
returns-in_default-renewal-clause-unconfirmed g c request response of own none =
    let mark = g.S.Store.mark in
    let may_fail = MayFail g.S.Store.can_fail in
    let stored = g.S.Store.stored in
    let next_id = g.S.Store.next_id in
    let old = c.args.self.now.store in
    let new = c.read.new.self.store in
    let last = g.S.Store.lasting new in
    let arrived = c.args.arrived.now in
    let times = arrived.times.now in
    let options = options_of c.args.self.now.options in
    let id = c.in-Some.id in
    let text = text_of c.args.target.now in
    let found = c.found-stored.result.now in
    let is_read : c.in_ok-read.field-0 ≡ true = search rules in
    let shows : ShowsAll mark found (stored old (own_text request)) =
    subst (λ (t : List ℕ). ShowsAll mark found (stored old t)) own
    (subst (λ (s : StoredByTarget). ShowsAll mark found (s text)) c.in_ok-read.ensures.kept.stored
    (c.found-stored.ensures (c.in_ok-read.ensures.read is_read))) in
    let renews : IsRenewalOf arrived options id found None =
    subst (λ (o : CacheOptions). IsRenewalOf arrived (options_of o) id found None) c.in_ok-read.ensures.options
    (subst (λ (r : Option Renewal). IsRenewalOf arrived (options_of c.read.new.self.options) id found r) c.in_default-renewal.is
    c.in_ok-renewal.ensures.renewal) in
    let of_id : IsArrival request response (Some id) times arrived =
    subst (λ (i : Option ResponseId). IsArrival request response i times arrived) c.in-Some.is of in
    let For : Option ResponseId → Type 0 = λ i. IsUnconfirmedFor may_fail options request times i
    c.args.validation.now.is_past_store (stored old) last response in
    subst For (sym c.in-Some.is)
    (inr (inr (unconfirmed mark may_fail options request times id (stored old) (next_id old) (stored new) (next_id new)
    (g.S.Store.lasting old) found shows (next_id old) (g.met.S.Store.ids_below old (own_text request)) response response last
    arrived of_id renews)))

pub returns-clause-unconfirmed : goal.returns-clause-unconfirmed
returns-clause-unconfirmed g c request response of own none =
    let mark = g.S.Store.mark in
    let may_fail = MayFail g.S.Store.can_fail in
    let stored = g.S.Store.stored in
    let next_id = g.S.Store.next_id in
    let old = c.args.self.now.store in
    let new = c.confirmed.new.self.store in
    let last = g.S.Store.lasting new in
    let arrived = c.args.arrived.now in
    let times = arrived.times.now in
    let options = options_of c.args.self.now.options in
    let id = c.in-Some.id in
    let text = text_of c.args.target.now in
    let found = c.found-stored.result.now in
    let renewal = c.in-Some-renewal.renewal in
    let is_read : c.in_ok-read.field-0 ≡ true = search rules in
    let shows : ShowsAll mark found (stored old (own_text request)) =
    subst (λ (t : List ℕ). ShowsAll mark found (stored old t)) own
    (subst (λ (s : StoredByTarget). ShowsAll mark found (s text)) c.in_ok-read.ensures.kept.stored
    (c.found-stored.ensures (c.in_ok-read.ensures.read is_read))) in
    let renews : IsRenewalOf arrived options id found (Some renewal) =
    subst (λ (o : CacheOptions). IsRenewalOf arrived (options_of o) id found (Some renewal)) c.in_ok-read.ensures.options
    (subst (λ (r : Option Renewal). IsRenewalOf arrived (options_of c.read.new.self.options) id found r) c.in-Some-renewal.is
    c.in_ok-renewal.ensures.renewal) in
    let gone : IsLost may_fail (last (own_text request)) renewal.reply.id.0 =
    subst (λ (t : List ℕ). IsLost may_fail (last t) renewal.reply.id.0) own (c.in_ok-answer.ensures.unavailable none) in
    let For : Option ResponseId → Type 0 = λ i. IsUnconfirmedFor may_fail options request times i
    c.args.validation.now.is_past_store (stored old) last response in
    subst For (sym c.in-Some.is)
    (inr (inr (lost mark may_fail options request times id (stored old) (next_id old) (stored new) (next_id new)
    (g.S.Store.lasting old) found shows (next_id old) (g.met.S.Store.ids_below old (own_text request)) response response last
    arrived renewal renews gone)))

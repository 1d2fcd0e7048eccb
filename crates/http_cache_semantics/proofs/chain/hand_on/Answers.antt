-- The next cache keeps the fresh answer that it receives.
use Rattle.std.proofs.Common.{◌≡◌, ℕ, ℤ, sym, ap, ◌∙◌}
use Rattle.http_cache_fields.specs.Headers.{Headers, headers_of}
use Rattle.http_cache_rules.specs.Options.{Options, options_of}
use Rattle.http_cache_policy.specs.Messages.{RequestSeen}
use Rattle.http_cache_policy.specs.Exchange.{Exchange, exchange_of}
use Rattle.http_cache_policy.specs.Kept.{kept_exchange}
use Rattle.http_cache_policy.specs.Fresh.{IsFreshHeaders}
use Rattle.http_cache_policy.specs.Answer.{is_fresh}
use Rattle.http_cache_semantics.specs.Chain.{IsHandedOn, IsFor}
use Rattle.http_cache_semantics.proofs.AnswerLemmas.{answer-room, answer-dated}
use Rattle.http_cache_semantics.proofs.chain.hand_on.Goals as goal

handed-made : (request : RequestSeen) (options : Options) (e : Exchange) → IsFor request options e
    → (now : ℤ) (h : Headers) → IsFreshHeaders e now h
    → (status : ℕ) → status ≡ e.status → (next : Exchange)
    → next ≡ kept_exchange (exchange_of request (record { status = status; headers = h }) options now)
    → IsHandedOn e now next
handed-made request options e same now h fresh status same_status next is = record {
  headers = h;
  are_fresh = fresh;
  is_kept =
      is ∙ (λ i. kept_exchange (record {
        target = sym same.same_target i;
        method = sym same.same_method i;
        status = same_status i;
        request_headers = sym same.same_headers i;
        response_headers = h;
        options = sym same.same_options i;
        response_time = now;
      }));
}

pub returns-in-Fresh-clause-next : goal.returns-in-Fresh-clause-next
returns-in-Fresh-clause-next g c =
    let request = g.Req.RequestLike.seen c.args.req.now in
    let parts = rw c.in-Fresh.is at c.in_ok-parts.ensures.fresh in (
      sym (sym (ap is_fresh c.in-Fresh.is) ∙ c.in_ok-parts.ensures.verdict),
      handed-made request (options_of c.args.opts.now) c.args.policy.now c.requires c.args.moment.nanosecond
          (headers_of c.in-Fresh.parts.headers) parts.headers c.in-Fresh.parts.status parts.status
          c.in_ok-next-in-Fresh.next c.in_ok-next-in-Fresh.ensures.value,
    )

pub returns-in-Fresh-clause-room : goal.returns-in-Fresh-clause-room
returns-in-Fresh-clause-room g c =
    answer-room c.args.policy.now (g.Req.RequestLike.seen c.args.req.now) c.args.moment.nanosecond _
    c.in_ok-parts.ensures.verdict c.in_ok-parts.ensures.fresh c.in_ok-parts.ensures.stale

pub returns-in-Fresh-clause-dated : goal.returns-in-Fresh-clause-dated
returns-in-Fresh-clause-dated g c =
    answer-dated c.args.policy.now (g.Req.RequestLike.seen c.args.req.now) c.args.moment.nanosecond _
    c.in_ok-parts.ensures.verdict c.in_ok-parts.ensures.fresh

pub returns-clause-room : goal.returns-clause-room
returns-clause-room g c =
    answer-room c.args.policy.now (g.Req.RequestLike.seen c.args.req.now) c.args.moment.nanosecond _
    c.in_ok-parts.ensures.verdict c.in_ok-parts.ensures.fresh c.in_ok-parts.ensures.stale

pub returns-clause-dated : goal.returns-clause-dated
returns-clause-dated g c =
    answer-dated c.args.policy.now (g.Req.RequestLike.seen c.args.req.now) c.args.moment.nanosecond _
    c.in_ok-parts.ensures.verdict c.in_ok-parts.ensures.fresh

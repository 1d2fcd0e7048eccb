-- The answer is the received response with a Date, and marked.
use Rattle.std.proofs.Common.{ap, subst, sym, ◌∙◌}
use Rattle.http.specs.declared.response.Parts.{Parts}
use Rattle.http_cache_decisions.specs.Receipt.{IsDatedHead, sent_body}
use Rattle.http_cache_decisions.specs.Report.{IsMarked}
use Rattle.http_cache_decisions.proofs.MarkLemmas.{marked_as}
use Rattle.http_cache_decisions.proofs.receipt.prepared.Goals as goal

pub returns : goal.returns
returns c =
    let parts = c.into_parts-head.ensures in
    record {
      dated = c.in_ok-dated.dated;
      is_dated = subst (λ (h : Parts). IsDatedHead c.args.received.nanosecond h c.in_ok-dated.dated) (ap (λ p. p.0) parts) c.in_ok-dated.ensures;
      sent = c.in_ok-sent.sent;
      is_sent = c.in_ok-sent.ensures.head;
      marked =
          subst (IsMarked c.in_ok-sent.sent) (sym c.from_parts.ensures.head)
          (marked_as c.in_ok-cache_status.cache_status.bytes c.in_ok-sent.sent c.in_ok-head.head c.in_ok-head.ensures);
      body = c.from_parts.ensures.body ∙ c.in_ok-sent.ensures.body ∙ ap (λ p. sent_body c.args.is_known p.1) parts;
    }

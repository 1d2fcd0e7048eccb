-- Another Cache-Status leaves the answer as it is.
use Rattle.std.proofs.Common.{ap, subst, sym, ◌∙◌}
use Rattle.http.specs.declared.response.Parts.{Parts}
use Rattle.http_cache_fields.specs.Headers.{headers_of}
use Rattle.http_cache_decisions.specs.Report.{IsMarkedBy}
use Rattle.http_cache_decisions.specs.declared.body.Body.{Body}
use Rattle.http_cache_decisions.proofs.receipt.settled_answer.Goals as goal

pub returns-in-Some : goal.returns-in-Some
returns-in-Some c is_known received response a =
    let parts = c.into_parts-head.ensures in
    let made = c.from_parts.ensures.head in
    let old = headers_of a.sent.headers in
    record {
      dated = a.dated;
      is_dated = a.is_dated;
      sent = a.sent;
      is_sent = a.is_sent;
      marked = record {
        status = ap (λ p. p.status) made ∙ ap (λ p. p.0.status) parts ∙ a.marked.status;
        version = ap (λ p. p.version) made ∙ ap (λ p. p.0.version) parts ∙ a.marked.version;
        text = c.in-Some.cache_status.bytes;
        fields =
            subst (λ (p : Parts). IsMarkedBy old c.in-Some.cache_status.bytes (headers_of p.headers)) (sym made)
            (c.replace_cache_status.ensures old a.marked.text
            (subst (λ (p : Parts × Body). IsMarkedBy old a.marked.text (headers_of p.0.headers)) (sym parts) a.marked.fields));
      };
      body = c.from_parts.ensures.body ∙ ap (λ p. p.1) parts ∙ a.body;
    }

-- Cache-Control is replaced first, and then the ETag.
use Rattle.std.proofs.Common.{◌∙◌, ap}
use Rattle.http_cache_fields.specs.Headers.{headers_of}
use Rattle.http_cache_findings.specs.Remedy.{with_control, with_tag}
use Rattle.http_cache_findings.proofs.remedy.remedied_headers.Goals as goal

pub returns : goal.returns
returns c =
    c.in_ok-put_tag.ensures
    ∙ ap (with_tag c.args.advice) (c.in_ok-put_control.ensures ∙ ap (λ h. with_control c.args.advice (headers_of h)) c.in_ok-copy.ensures)

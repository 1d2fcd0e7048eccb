-- Each line adds its members, until no line is left.
use Rattle.std.proofs.Common.{◌≡◌, ◌++◌, ℕ, List, [], ap, sym, ◌∙◌, codes, append-nil, append_assoc}
use Rattle.std.specs.Prelude.{string_bytes}
use Rattle.http_header.specs.HeaderMap.{get_all}
use Rattle.http_cache_fields.specs.Headers.{bytes_of}
use Rattle.http_cache_fields.proofs.HeadersLemmas.{values-headers_of}
use Rattle.http_cache_decisions.specs.Report.{earlier_member, earlier_members}
use Rattle.http_cache_decisions.proofs.report.earlier_members.Goals as goal

pub loop-value-init : goal.loop-value-init
loop-value-init c =
    let m = c.args.headers.now in
    let lines : c.into_iter-value-iterator.result ≡ get_all m (codes "cache-status") =
    c.into_iter-value-iterator.ensures.into_iter_gives ∙ c.iter-value-items.ensures ∙ c.get_all.ensures.value in
    ap (λ (t : List ℕ). t ++ earlier_members (bytes_of c.into_iter-value-iterator.result)) c.new-text.ensures.bytes
    ∙ ap (λ vs. earlier_members (bytes_of vs)) lines
    ∙ ap earlier_members (sym (values-headers_of m (codes "cache-status")))

-- The look-up yields each Host line.
use Rattle.std.proofs.Common.{codes, length, ap, sym, ◌∙◌}
use Rattle.std.specs.Borrow.{Bor}
use Rattle.std.proofs.lemmas.Iterator.Consumers.{count_from_yields_List, YieldsList-from_first}
use Rattle.std.proofs.lemmas.List.{length-map}
use Rattle.http_header.specs.FieldValue.{FieldValue}
use Rattle.http_header.specs.HeaderMap.{get_all}
use Rattle.http_cache_fields.proofs.HeadersLemmas.{values-headers_of}
use Rattle.http_cache_intermediary.proofs.refusal.host_count.Goals as goal

pub returns : goal.returns
returns c =
    let m = c.args.headers.now in
    let all = get_all m (codes "host") in
    count_from_yields_List c.iter.result c.count.result c.count.ensures.ran
    (YieldsList-from_first (λ (x : Bor FieldValue). x.now) (λ s. s) all (c.iter.ensures ∙ c.get_all.ensures.value))
    ∙ sym (length-map all (λ (v : FieldValue). v.bytes))
    ∙ ap length (sym (values-headers_of m (codes "host")))

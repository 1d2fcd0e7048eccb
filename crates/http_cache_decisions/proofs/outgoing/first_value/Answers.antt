-- `get` shows the first value.
use Rattle.std.proofs.Common.{ap, sym, ◌∙◌, option_map}
use Rattle.http_cache_fields.proofs.HeadersLemmas.{first-headers_of}
use Rattle.http_cache_decisions.proofs.OutgoingLemmas.{bytes-copied}
use Rattle.http_cache_decisions.proofs.outgoing.first_value.Goals as goal

pub returns : goal.returns
returns c =
    bytes-copied c.get.result
    ∙ ap (option_map (λ v. v.bytes)) c.get.ensures.value
    ∙ sym (first-headers_of c.args.map.now c.args.name)

-- The pieces under a name of a map are those of its headers.
use Rattle.std.proofs.Common.{ap, sym, ◌∙◌}
use Rattle.http_cache_fields.specs.Headers.{bytes_of}
use Rattle.http_cache_fields.specs.Pieces.{pieces_of_values}
use Rattle.http_cache_fields.proofs.HeadersLemmas.{values-headers_of}
use Rattle.http_cache_fields.proofs.pieces.pieces_under.Goals as goal

pub returns : goal.returns
returns g c =
    c.get_all_comma.ensures ∙ ap (λ vs. pieces_of_values (bytes_of vs)) c.get_all.ensures.value
    ∙ ap pieces_of_values (sym (values-headers_of c.args.headers.now (g.K.AsHeaderName.name c.args.name)))

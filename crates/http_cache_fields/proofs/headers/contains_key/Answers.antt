-- A look-up finds a value exactly if the headers have the name.
use Rattle.std.proofs.Common.{◌∙◌}
use Rattle.http_cache_fields.proofs.HeadersLemmas.{contains_key-headers_of}
use Rattle.http_cache_fields.proofs.headers.contains_key.Goals as goal

pub returns : goal.returns
returns g c = c.is_some.ensures
    ∙ contains_key-headers_of c.args.map.now (g.K.AsHeaderName.name c.args.name) c.get.result c.get.ensures.value

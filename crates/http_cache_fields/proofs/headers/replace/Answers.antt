-- Replacing the values of a present name is never refused.
use Rattle.std.proofs.Common.{ap, ◌∙◌}
use Rattle.http_cache_fields.specs.Headers.{headers_of}
use Rattle.http_cache_fields.proofs.HeadersLemmas.{headers_of-insert, ContainsKey-from_contains_key}
use Rattle.http_cache_fields.proofs.headers.replace.Goals as goal

pub returns : goal.returns
returns g c =
    ap headers_of c.in-Ok.ensures.ok
    ∙ headers_of-insert c.args.map.now (g.K.AsHeaderName.name c.args.name) c.args.value

pub unreachable-requires : goal.unreachable-requires
unreachable-requires g c =
    let no = c.in-Err.ensures.replaces
    (ContainsKey-from_contains_key c.args.map.now (g.K.AsHeaderName.name c.args.name) c.requires.there) in
    cc

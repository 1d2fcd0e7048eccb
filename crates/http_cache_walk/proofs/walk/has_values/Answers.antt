-- A map's length is the number of its values.
use Rattle.std.proofs.Common.{refl}
use Rattle.http_cache_fields.proofs.HeadersLemmas.{value_count-headers_of}
use Rattle.http_cache_walk.proofs.walk.has_values.Goals as goal

pub returns : goal.returns
returns c = rw (c.len.ensures.value, value_count-headers_of c.args.headers.now c.len.ensures.valid.unique) refl

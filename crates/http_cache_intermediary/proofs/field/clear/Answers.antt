-- The name has no line left.
use Rattle.http_cache_fields.specs.Headers.{headers_of}
use Rattle.http_cache_intermediary.proofs.FieldLemmas.{lines-remove}
use Rattle.http_cache_intermediary.proofs.field.clear.Goals as goal

pub returns : goal.returns
returns c = lines-remove (headers_of c.args.map.now) c.args.name (headers_of c.remove.new.map) c.remove.ensures

-- The name has the one line that was inserted.
use Rattle.std.proofs.lemmas.Result.{on_ok_weaker}
use Rattle.http_cache_fields.specs.Headers.{headers_of}
use Rattle.http_cache_intermediary.proofs.FieldLemmas.{lines-set}
use Rattle.http_cache_intermediary.proofs.field.set.Goals as goal

pub returns : goal.returns
returns c =
    on_ok_weaker c.insert.result
    (lines-set (headers_of c.args.map.now) c.args.name c.args.value.bytes (headers_of c.insert.new.map))
    c.insert.ensures.ok

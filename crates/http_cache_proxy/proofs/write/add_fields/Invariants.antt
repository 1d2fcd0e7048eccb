-- The added fields and the rest of the map are all fields to write.
use Rattle.std.proofs.Common.{◌≡◌, ◌++◌, map}
use Rattle.http_server.specs.Response.{fields, fields_of}
use Rattle.http_cache_proxy.specs.Write.{written_field, written_fields}
use Rattle.http_cache_proxy.proofs.write.add_fields.Given as goal

abbrev pub invariant-loop-name : goal.invariant-loop-name
invariant-loop-name l =
    (l.response.status ≡ l.fn.response.status)
    × (l.response.body ≡ l.fn.response.body)
    × (fields_of l.response ++ map written_field (fields l.name-iterator) ≡ written_fields l.headers)

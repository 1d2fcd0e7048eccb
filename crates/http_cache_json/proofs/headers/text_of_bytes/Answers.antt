-- The bytes that are written in hexadecimal are below 256.
use Rattle.std.proofs.Common.{arith}
use Rattle.http_cache_json.proofs.headers.text_of_bytes.Goals as goal

pub returns-clause-bytes : goal.returns-clause-bytes
returns-clause-bytes c = λ i. let fits = c.type_inv.bytes i in omega arith

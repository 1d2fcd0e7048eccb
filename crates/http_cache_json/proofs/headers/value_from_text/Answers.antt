-- A text in hexadecimal is read as the bytes that it writes.
use Rattle.http_cache_json.proofs.TextLemmas.{value_passes, text_value}
use Rattle.http_cache_json.proofs.headers.value_from_text.Goals as goal

pub returns-in-Ok-from_vec-clause-found : goal.returns-in-Ok-from_vec-clause-found
returns-in-Ok-from_vec-clause-found c = (
  c.in-Ok.bytes.items,
  text_value _ c.in-Some.text.now c.in-Ok.bytes.items c.in-Some.ensures c.in-Ok.ensures.ok
      (value_passes c.in-Ok.bytes.items (λ no. cc (c.in-Ok-from_vec.ensures.invalid.1 no))),
  c.in-Ok-from_vec.ensures.ok,
)

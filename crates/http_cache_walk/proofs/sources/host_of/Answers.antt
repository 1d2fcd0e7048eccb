-- The text is cut before an ASCII byte.
use Rattle.std.proofs.Common.{◌≡◌, ◌∙◌, ap, ℕ, ◌+◌, ◌<◌, List, length, drop, arith}
use Rattle.std.proofs.lemmas.Str.{IsCharBoundary-before_ascii}
use Rattle.http_cache_walk.specs.Sources.{len_to_end}
use Rattle.http_cache_walk.proofs.SourcesLemmas.{ascii_at_end}
use Rattle.http_cache_walk.proofs.sources.host_of.Goals as goal

pub range-requires-clause-end_boundary : goal.range-requires-clause-end_boundary
range-requires-clause-end_boundary c =
    let text = c.args.target.now in
    let start = c.len_to_end-start.result + 2 in
    let len = c.len_to_end.result in
    let same : c.as_bytes-bytes.result.now ≡ text = c.as_bytes-bytes.ensures.value in
    let within : start + len < length text = omega (arith, c.if-end-len.true, ap (λ (t : List ℕ). length t) same) in
    IsCharBoundary-before_ascii text (start + len) within
    (ascii_at_end text start len (c.len_to_end.ensures.value ∙ ap (λ t. len_to_end (drop start t)) same) within)

-- In the loop: the headers have the values of the lines so far.
use Rattle.std.proofs.Common.{◌≡◌, map, fold}
use Rattle.http_cache_fields.specs.Headers.{headers_of}
use Rattle.http_cache_recording.specs.Fields.{with_line}
use Rattle.http_cache_recording.proofs.fields.add_lines.Given as goal

abbrev pub invariant-loop-line : goal.invariant-loop-line
invariant-loop-line l =
    headers_of l.headers ≡ fold (with_line l.name) (headers_of l.initial.headers) (map (λ y. y.now) l.yielded)

-- In the loop: a quote in a line that is left is in a line.
use Rattle.std.proofs.Common.{◌≡◌, true}
use Rattle.std.specs.List.{list_any}
use Rattle.http_cache_fields.specs.Text.{is_quote}
use Rattle.http_cache_fields.specs.Headers.{headers_of, bytes_of}
use Rattle.http_cache_decisions.specs.Storing.{has_quote}
use Rattle.http_cache_decisions.proofs.quoted.is_misread.Given as goal

abbrev pub invariant-loop-line : goal.invariant-loop-line
invariant-loop-line l =
    list_any (list_any is_quote) (bytes_of l.line-iterator) ≡ true → has_quote (headers_of l.headers) ≡ true

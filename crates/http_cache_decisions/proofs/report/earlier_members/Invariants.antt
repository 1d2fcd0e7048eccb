-- In the loop: the members so far and those of the lines that are left are all of them.
use Rattle.std.proofs.Common.{◌≡◌, ◌++◌, codes}
use Rattle.std.specs.Prelude.{string_bytes}
use Rattle.http_cache_fields.specs.Headers.{headers_of, bytes_of, values}
use Rattle.http_cache_decisions.specs.Report.{earlier_members}
use Rattle.http_cache_decisions.proofs.report.earlier_members.Given as goal

abbrev pub invariant-loop-value : goal.invariant-loop-value
invariant-loop-value l =
    string_bytes l.text ++ earlier_members (bytes_of l.value-iterator)
    ≡ earlier_members (values (headers_of l.headers) (codes "cache-status"))

-- In the loop: the object has the names so far, and the others are left.
use Rattle.std.proofs.Common.{◌≡◌}
use Rattle.std.specs.List.{AllByRecursion}
use Rattle.std.specs.FinMap as fin
use Rattle.serde_json.specs.View.{members_view}
use Rattle.http_cache_fields.specs.Headers.{Headers, headers_of}
use Rattle.http_cache_json.specs.HeaderObject.{members_data}
use Rattle.http_cache_json.specs.ReadBack.{IsReadableEntry}
use Rattle.http_cache_json.proofs.WriteLemmas.{with_names}
use Rattle.http_cache_json.proofs.headers.value_of_headers.Given as goal

abbrev pub invariant-loop-name : goal.invariant-loop-name
invariant-loop-name l =
    (done : Headers) × (members_view l.members.entries ≡ members_data (fin.entries done))
    × (with_names l.headers l.name-iterator done ≡ headers_of l.headers)
    × AllByRecursion IsReadableEntry (fin.entries done)

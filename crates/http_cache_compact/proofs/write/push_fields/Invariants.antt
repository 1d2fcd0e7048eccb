-- Some field lines were written, and the others are left.
use Rattle.std.proofs.Common.{◌≡◌, ◌++◌, ℕ, List, map}
use Rattle.std.specs.List.{flat_map, AllByRecursion}
use Rattle.http_header.specs.FieldValue.{FieldValue}
use Rattle.http_cache_json.specs.Pairs.{Pair}
use Rattle.http_cache_compact.specs.Written.{field_text, fields_in, IsWritableField}
use Rattle.http_cache_compact.proofs.write.push_fields.Given as goal

abbrev pub line : List ℕ × FieldValue → Pair
line p = (p.0, p.1.bytes)

abbrev pub invariant-loop-name : goal.invariant-loop-name
invariant-loop-name l =
    (done : List Pair) × (done ++ map line l.name-iterator ≡ fields_in l.headers)
    × (l.out.items ≡ l.initial.out.items ++ flat_map field_text done)
    × AllByRecursion IsWritableField done

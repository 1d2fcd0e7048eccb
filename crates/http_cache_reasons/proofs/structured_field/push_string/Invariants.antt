-- In the loop: the text is the string of the bytes so far, without its last quote.
use Rattle.std.proofs.Common.{◌≡◌, ◌++◌, map, take, string_bytes}
use Rattle.std.specs.List.{flat_map}
use Rattle.http_cache_reasons.specs.StructuredField.{escaped, printable}
use Rattle.http_cache_reasons.proofs.structured_field.push_string.Given as goal

abbrev pub invariant-loop-byte : goal.invariant-loop-byte
invariant-loop-byte l =
    string_bytes l.text
    ≡ string_bytes l.initial.text ++ flat_map escaped (map printable (take l.byte-index l.byte-items))

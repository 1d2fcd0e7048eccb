-- In the loop: each byte from the length on is a blank.
use Rattle.std.proofs.Common.{◌≡◌, ◌+◌, ◌≤◌, length, take}
use Rattle.std.specs.List.{suffix_len}
use Rattle.http_cache_recording.specs.Fields.{is_blank}
use Rattle.http_cache_recording.proofs.fields.len_without_blanks.Given as goal

abbrev pub invariant-loop-len : goal.invariant-loop-len
invariant-loop-len l =
    (l.len ≤ length l.bytes)
    × (l.len + suffix_len is_blank l.bytes ≡ length l.bytes + suffix_len is_blank (take l.len l.bytes))

abbrev pub decreases-loop-len : goal.decreases-loop-len
decreases-loop-len l = l.len

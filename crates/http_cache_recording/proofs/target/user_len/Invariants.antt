-- No byte from the length on is an `@`.
use Rattle.std.proofs.Common.{◌≡◌, ◌+◌, ◌≤◌, ◌==◌, not, length, take}
use Rattle.std.specs.List.{suffix_len}
use Rattle.http_cache_recording.proofs.target.user_len.Given as goal

abbrev pub invariant-loop-len : goal.invariant-loop-len
invariant-loop-len l =
    (l.len ≤ length l.front)
    × (l.len + suffix_len (λ b. not (b == 64)) l.front
    ≡ length l.front + suffix_len (λ b. not (b == 64)) (take l.len l.front))

abbrev pub decreases-loop-len : goal.decreases-loop-len
decreases-loop-len l = l.len

-- In the loop: the written text lists the rows up to the index.
use Rattle.std.proofs.Common.{◌≡◌, ℕ, Bool, List, [], map, take}
use Rattle.std.specs.Fmt.{HasWritten, IsPlainFormatter}
use denote.Bor.{Bor}
use denote.Text.{Utf8}
use denote.Shadow.{shadow}
use Rattle.http_cache_rules.specs.DisplayText.{listed}
use Rattle.http_cache_rules.proofs.DisplayTextLemmas.{separator_after}
use Rattle.http_cache_rules.proofs.storability.ObstaclesDisplay.fmt.Given as goal

abbrev pub row_seen : Bool × Bor (List ℕ) → Bool × List ℕ
row_seen row = (row.0, row.1.now)

abbrev pub invariant-loop-row : goal.invariant-loop-row
invariant-loop-row g l =
    shadow (Utf8 l.separator)
    × (l.separator ≡ separator_after [] (map row_seen (take l.row-index l.row-items)))
    × (IsPlainFormatter l.initial.f
    → HasWritten g.W.Write.write_str_gives l.initial.f
    (listed [] (map row_seen (take l.row-index l.row-items))) l.f)

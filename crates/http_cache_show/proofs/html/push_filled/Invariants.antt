-- In the loop: the rest is the rest of a template.
use Rattle.std.proofs.Common.{◌≡◌, true, string_bytes}
use denote.Text.{Utf8}
use denote.Shadow.{shadow}
use Rattle.http_cache_show.specs.Tags.{state_after, between, is_template}
use Rattle.http_cache_show.proofs.html.push_filled.Given as goal

abbrev pub invariant-loop-item : goal.invariant-loop-item
invariant-loop-item l =
    shadow (Utf8 l.rest) × (is_template (state_after between (string_bytes l.html)) l.rest ≡ true)

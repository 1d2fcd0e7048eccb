-- In the loop: the written text and the lines that are left make the whole line.
use Rattle.std.proofs.Common.{◌≡◌, ◌++◌, string_bytes}
use denote.Text.{Utf8}
use denote.Shadow.{shadow}
use Rattle.std.specs.List.{list_all}
use Rattle.http_cache_fields.specs.Text.{is_text}
use Rattle.http_cache_fields.specs.Headers.{bytes_of}
use Rattle.http_cache_rules.specs.Joined.{joined_text}
use Rattle.http_cache_rules.proofs.JoinedLemmas.{rest_text}
use Rattle.http_cache_rules.proofs.joined.joined_text.Given as goal

abbrev pub invariant-loop-line : goal.invariant-loop-line
invariant-loop-line l =
    let left = bytes_of l.line-iterator in
    let all = bytes_of l.fn.lines in
    shadow (Utf8 l.separator)
    × (list_all is_text left ≡ list_all is_text all)
    × (string_bytes l.joined ++ rest_text l.separator left ≡ joined_text all)

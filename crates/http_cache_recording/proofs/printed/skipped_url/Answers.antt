-- The text that is shown ends where it is cut.
use Rattle.std.proofs.Common.{◌∙◌}
use Rattle.std.proofs.lemmas.Slice.{between_from_start}
use Rattle.http_cache_recording.proofs.printed.skipped_url.Goals as goal

pub returns : goal.returns
returns c =
    let cut = c.floor_char_boundary in
    let front = c.range.ensures.value ∙ between_from_start c.without_credentials-url.result.now cut.result in
    rw (← c.in_ok-request_text.ensures, ← c.without_credentials-url.ensures)
    (cut.result, cut.ensures.bound, cut.ensures.boundary, cut.ensures.nearest, front)

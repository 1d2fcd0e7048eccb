-- The row has the beginning of the url, if there is one.
use Rattle.std.proofs.Common.{ap, ◌∙◌}
use Rattle.std.specs.Prelude.{option_map, string_bytes}
use Rattle.serde_json.specs.View.{view}
use Rattle.http_cache_recording.specs.Entry.{skipped}
use Rattle.http_cache_recording.specs.Printed.{printed_of}
use Rattle.http_cache_recording.proofs.element.skipped.Goals as goal

pub returns : goal.returns
returns c =
    let url = option_map (λ t. t.now) c.skipped_url.result in
    let d = view c.args.value.now in
    let printed = c.in_ok-printed_of.ensures ∙ ap (λ u. printed_of c.args.reader u d) c.in_ok-url.ensures in
    (url, c.skipped_url.ensures, λ i. record { printed = printed i; reading = skipped (string_bytes c.args.reason) })

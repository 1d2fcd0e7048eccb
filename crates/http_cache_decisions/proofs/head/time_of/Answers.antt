-- A second has a timestamp up to the latest.
use Rattle.std.proofs.Common.{ℕ, List, ap, ◌∙◌, option_map, option_and_then, arith}
use Rattle.std.proofs.lemmas.Int.{ints}
use mir.Syntax.{w64}
use mir.Val.{to_z}
use Rattle.httpdate.specs.Date.{parse_secs}
use Rattle.http_cache_decisions.specs.StoredHead.{time_of, time_of_second}
use Rattle.http_cache_decisions.proofs.HeadLemmas.{time_of_second-read}
use Rattle.http_cache_decisions.proofs.head.time_of.Goals as goal

pub returns-in-Ok-clause-time : goal.returns-in-Ok-clause-time
unfolding time_of
returns-in-Ok-clause-time c =
    ap (option_map (λ t. t.nanosecond)) c.ok.ensures.value
    ∙ time_of_second-read (to_z w64 c.unix_secs.result) c.unix_secs.result
    (omega (arith, ints, c.unix_secs.ensures.bound)) c.from_second.result c.from_second.ensures.succeeds
    c.from_second.ensures.value
    ∙ ap time_of_second c.unix_secs.ensures.value
    ∙ ap (option_and_then time_of_second) c.in-Ok.ensures.secs
    ∙ ap (λ (s : List ℕ). option_and_then time_of_second (parse_secs s)) c.as_bytes.ensures.value

-- jiff reads what httpdate reads, if there is a comma after the weekday.
use Rattle.std.proofs.Common.{◌≡◌, pos, to_z, w64, sym, ap, ◌∙◌, arith}
use Rattle.std.proofs.lemmas.Int.{to_z_pos}
use Rattle.httpdate.specs.Date.{unix_secs}
use Rattle.http_cache_rules.proofs.FixdateLemmas.{fourth, fixdate-second}
use Rattle.http_cache_rules.proofs.dates.moment_of_fixdate.Goals as goal

pub returns-in-Ok : goal.returns-in-Ok
returns-in-Ok c =
    let comma : fourth c.args.text.now ≡ 44 =
    sym (c.in-Some-eq44.ensures.lookup.4 (omega arith) 44) ∙ c.in-Some-eq44.field-0-test in
    let seconds : to_z w64 c.unix_secs.result ≡ pos (unix_secs c.in-Ok.date) =
    to_z_pos w64 c.unix_secs.result (omega (arith, c.unix_secs.ensures.bound)) ∙ ap pos c.unix_secs.ensures.value in
    rw c.ok.ensures.value
    (fixdate-second c.args.text.now c.in-Ok.date (to_z w64 c.unix_secs.result) c.from_second.result
    c.in-Ok.ensures.shown comma seconds c.from_second.ensures.value)

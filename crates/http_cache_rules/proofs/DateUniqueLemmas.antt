-- A time has one date text.
use Rattle.std.proofs.Common.{◌≡◌, ℕ, ℤ, List, sym, ◌∙◌}
use Rattle.jiff_core.specs.declared.civil.datetime.DateTime.{DateTime}
use Rattle.jiff_core.specs.DateTime.{civil_nanos}
use Rattle.jiff_core.proofs.DateLemmas.{epoch_day_injective}
use Rattle.jiff_core.proofs.DateTimeLemmas.{time_nanos_injective, civil_nanos_injective}
use Rattle.http_cache_rules.specs.Dates.{clock_text, IsDateText}

clock_text-same : (a b : DateTime) → civil_nanos a ≡ civil_nanos b → clock_text a ≡ clock_text b
clock_text-same a b e =
    let parts = civil_nanos_injective a b e in
    let date = epoch_day_injective a.date b.date parts.0 in
    let time = time_nanos_injective a.time b.time parts.1 in
    rw (date.0, date.1, date.2, time.0, time.1, time.2)

pub IsDateText-unique : (moment : ℤ) (t u : List ℕ) → IsDateText moment t → IsDateText moment u → t ≡ u
IsDateText-unique moment t u h k = h.2 ∙ clock_text-same h.0 k.0 (h.1 ∙ sym k.1) ∙ sym k.2

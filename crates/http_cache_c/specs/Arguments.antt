-- The arguments of a call.
use Rattle.std.specs.Prelude.{ℕ, ◌+◌, ◌*◌, ◌<◌, ◌≢◌, ℤ, pos, ◌+ℤ◌, ◌*ℤ◌, not, ◌==◌}
use Rattle.jiff_core.specs.Timestamp.{IsTimestampNanos}
use Rattle.http_cache_semantics.specs.Options.{Options}
use Rattle.http_cache_c.specs.declared.arguments.HcsCache.{HcsCache}
use Rattle.http_cache_c.specs.declared.arguments.HcsDuration.{HcsDuration}
use Rattle.http_cache_c.specs.declared.arguments.HcsTime.{HcsTime}

-- the nanoseconds since 1970
abbrev pub nanosecond_in : HcsTime → ℤ
nanosecond_in t = t.seconds *ℤ pos 1_000_000_000 +ℤ pos t.nanoseconds

-- the nanoseconds are below a second, and a date can have the time
abbrev pub IsTime : HcsTime → Type 0
IsTime t = (t.nanoseconds < 1_000_000_000) × IsTimestampNanos (nanosecond_in t)

abbrev pub options_in : HcsCache → Options
options_in c = record {
  shared = not (c.shared == 0);
  heuristic = record { numerator = c.heuristic_numerator; denominator = c.heuristic_denominator };
  immutable_nanos = c.immutable_seconds * 1_000_000_000 + c.immutable_nanoseconds;
  ignores_cargo_cult = not (c.ignore_cargo_cult == 0);
}

-- the nanoseconds are below a second, and the denominator isn't 0
abbrev pub AreOptions : HcsCache → Type 0
AreOptions c = (c.immutable_nanoseconds < 1_000_000_000) × (c.heuristic_denominator ≢ 0)

abbrev pub IsForm : HcsCache → Type 0
IsForm c = c.form < 2

abbrev pub nanos_of : HcsDuration → ℕ
nanos_of d = d.seconds * 1_000_000_000 + d.nanoseconds

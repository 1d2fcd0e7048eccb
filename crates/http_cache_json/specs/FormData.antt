-- The JSON values that are written for options and times.
use Rattle.std.specs.Prelude.{ℕ, ◌<◌, ◌/◌, ◌%◌, ℤ, pos, unsigned_abs, codes}
use Rattle.std.specs.Int.{int_div_euclid, int_rem_euclid}
use Rattle.serde_json.specs.Data.{Data, boolean, number, unsigned, array, object, no_items, item, no_members, member}
use Rattle.serde_json.specs.Find.{of_integer}
use Rattle.http_cache_rules.specs.Options.{Options}

abbrev pub whole_data : ℕ → Data
whole_data n = number (unsigned n)

abbrev pub pair_data : Data → Data → Data
pair_data a b = array (item a (item b no_items))

-- in the order of the names
unfoldable pub options_data : Options → Data
options_data o = object (
    member (codes "cache_heuristic")
    (pair_data (whole_data o.heuristic.numerator) (whole_data o.heuristic.denominator)) (
    member (codes "ignore_cargo_cult") (boolean o.ignores_cargo_cult) (
    member (codes "immutable_min_time_to_live")
    (pair_data (whole_data (o.immutable_nanos / 1_000_000_000))
    (whole_data (o.immutable_nanos % 1_000_000_000))) (
    member (codes "shared") (boolean o.shared) no_members))))

-- the second, rounded down, and the nanoseconds after it
unfoldable pub moment_data : ℤ → Data
moment_data t =
    pair_data (number (of_integer (int_div_euclid t (pos 1_000_000_000))))
    (whole_data (unsigned_abs (int_rem_euclid t (pos 1_000_000_000))))

-- the numbers have the sizes of the form
pub record AreInRange (o : Options) : Type 0 where
  pub numerator : o.heuristic.numerator < 4_294_967_296
  pub denominator : o.heuristic.denominator < 4_294_967_296
  pub not_zero : 0 < o.heuristic.denominator

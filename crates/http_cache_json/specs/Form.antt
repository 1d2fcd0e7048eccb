-- The JSON values of options and times.
use Rattle.std.specs.Prelude.{ℕ, ◌+◌, ◌*◌, ◌==◌, ◌&&◌, ℤ, pos, neg_ℤ, ◌+ℤ◌, ◌*ℤ◌, int_le, nat_lt, Bool, true, false}
use Rattle.std.specs.Prelude.{Option, Some, None, option_and_then, option_map, unwrap_or, codes}
use Rattle.serde_json.specs.Data.{Data, Items, no_items, item}
use Rattle.serde_json.specs.Events.{members_len}
use Rattle.serde_json.specs.Find.{get, as_array, as_object, as_bool, as_number, as_u64, as_i64}
use Rattle.http_cache_rules.specs.Ratio.{Ratio}
use Rattle.http_cache_rules.specs.Options.{Options}

infixl 10 ◌>>=◌
abbrev pub ◌>>=◌ : {A B : Type 0} → Option A → (A → Option B) → Option B
None >>= f = None
(Some x) >>= f = f x

abbrev pub given : {A : Type 0} → Bool → A → Option A
given true x = Some x
given false x = None

abbrev pub has_members : ℕ → Data → Bool
has_members n d = unwrap_or (option_map (λ ms. members_len ms == n) (as_object d)) false

abbrev pub two_of : Items → Option (Data × Data)
two_of no_items = None
two_of (item a no_items) = None
two_of (item a (item b no_items)) = Some (a, b)
two_of (item a (item b (item c ds))) = None

abbrev pub pair_of : Data → Option (Data × Data)
pair_of d = as_array d >>= two_of

-- a float is no whole number
abbrev pub whole_of : Data → Option ℕ
whole_of d = option_and_then as_u64 (as_number d)

-- a float is no whole number
abbrev pub integer_of : Data → Option ℤ
integer_of d = option_and_then as_i64 (as_number d)

unfoldable pub wholes_of : Data → Option (ℕ × ℕ)
wholes_of d = do
  p ← pair_of d
  a ← whole_of p.0
  b ← whole_of p.1
  Some (a, b)

-- jiff has instants for these years
abbrev pub is_instant : ℤ → Bool
is_instant n =
    int_le (neg_ℤ (pos 377_705_023_201_000_000_000)) n && int_le n (pos 253_402_207_200_999_999_999)

abbrev pub instant_at : ℤ → ℕ → ℤ
instant_at second nanos = second *ℤ pos 1_000_000_000 +ℤ pos nanos

-- as the nanosecond since 1970, from a second and the nanoseconds after it
unfoldable pub moment_of : Data → Option ℤ
moment_of d = do
  p ← pair_of d
  second ← integer_of p.0
  nanos ← whole_of p.1
  given (nat_lt nanos 1_000_000_000 && is_instant (instant_at second nanos))
      (instant_at second nanos)

-- two numbers of 32 bits, the second not 0
unfoldable pub fraction_of : Data → Option Ratio
fraction_of d = do
  p ← wholes_of d
  given (nat_lt p.0 4_294_967_296 && nat_lt 0 p.1 && nat_lt p.1 4_294_967_296)
      (record { numerator = p.0; denominator = p.1 })

-- as nanoseconds, from seconds and the nanoseconds after them
unfoldable pub duration_of : Data → Option ℕ
duration_of d = do
  p ← wholes_of d
  given (nat_lt p.1 1_000_000_000) (p.0 * 1_000_000_000 + p.1)

-- an object with only these four members
unfoldable pub options_of_data : Data → Option Options
options_of_data d = do
  four ← given (has_members 4 d) d
  shared ← get (codes "shared") four >>= as_bool
  fraction ← get (codes "cache_heuristic") four >>= fraction_of
  least ← get (codes "immutable_min_time_to_live") four >>= duration_of
  cult ← get (codes "ignore_cargo_cult") four >>= as_bool
  Some (record {
    shared = shared;
    heuristic = fraction;
    immutable_nanos = least;
    ignores_cargo_cult = cult;
  })

-- What jiff's grammar reads from an IMF-fixdate whose zone is replaced: the second that httpdate
-- reads from it.
use Rattle.std.proofs.Common.{◌≡◌, ℕ, ◌+◌, ◌-◌, ◌*◌, ◌/◌, ◌%◌, ◌<◌, ◌≤◌, zero, suc, ℤ, pos, ◌+ℤ◌, ◌-ℤ◌, ◌*ℤ◌, unsigned_abs}
use Rattle.std.proofs.Common.{List, [], ◌∷◌, ◌++◌, codes, length, length-append, Some, option_map, Result, Ok, Err, IfOk, IfSome, inl, inr, get_or, true, false, ◌==◌, ◌||◌, nat_lt, refl, ap, ◌∙◌, subst, arith}
use Rattle.std.proofs.lemmas.Bool.Decides.{nat_tests}
use Rattle.std.proofs.Math.Seq.{drop-append_seam, take-append_seam}
use Rattle.std.proofs.lemmas.List.{append_assoc}
use Rattle.std.specs.Int.{int_div_euclid}
use Rattle.std.specs.Result.{result_ok}
use Rattle.std.specs.Char.{is_ascii_whitespace, is_ascii_digit}
use Rattle.jiff_core.proofs.SignedLemmas.{signed_arith}
use Rattle.jiff.specs.declared.timestamp.Timestamp.{Timestamp}
use Rattle.jiff_core.specs.Calendar as Jiff
use Rattle.jiff_core.specs.Weekday.{monday_zero}
use Rattle.jiff_core.specs.Timestamp.{IsTimestampNanos, nanos_of_seconds}
use Rattle.jiff_core.proofs.CalendarLemmas.{day_count-epoch, days_from_civil-day_count, weekday_number-parts}
use Rattle.jiff_fmt.specs.Rfc2822.{timestamp, datetime, datetime_offset, date_and_clock, day, offset, weekday_text, month_text}
use Rattle.jiff_fmt.specs.Reader.{field, two_digits}
use Rattle.jiff_fmt.specs.Temporal.{DateParts, TimeParts, parts_nanos}
use Rattle.jiff_fmt.specs.Text.{pad2, pad4}
use Rattle.jiff_fmt.proofs.Rfc2822Lemmas.{timestamp_with_offset-parts}
use Rattle.jiff_fmt.proofs.TemporalLemmas.{instant-ok}
use Rattle.jiff_fmt.proofs.MailRoundTrip.{NoSpace, space-one, month-text, weekday_named, weekday-text, year-text, clock-text}
use Rattle.httpdate.specs.Calendar as Http
use Rattle.httpdate.specs.Valid.{IsValid, parts_secs}
use Rattle.httpdate.specs.Date.{IsDateText, unix_secs}
use Rattle.httpdate.specs.Text.{day_name, day_name_rest, month_name, imf_fixdate}
use Rattle.httpdate.specs.declared.date.HttpDate.{HttpDate}
use Rattle.httpdate.specs.declared.parts.Parts.{Parts}
use Rattle.http_cache_rules.specs.Dates.{with_offset, read_second, when, second_start}

-- Both calendars count the same days.
same_months : (y n : ℕ) → Jiff.days_of_months (pos y) n ≡ Http.days_of_months y n
unfolding Jiff.days_of_months Http.days_of_months
same_months y zero = refl
same_months y (suc n) = ap (λ (k : ℕ). k + Http.days_in_month y (suc n)) (same_months y n)

same_year : (n : ℕ) → pos (11970 + n) -ℤ pos 10000 ≡ pos (1970 + n)
same_year n = omega (arith, signed_arith)

same_years : (n : ℕ) → Jiff.days_of_years (11970 + n) ≡ Jiff.days_of_years 11970 + Http.days_of_years n
unfolding Jiff.days_of_years Http.days_of_years
same_years zero = refl
same_years (suc n) =
    let next : 11970 + suc n ≡ suc (11970 + n) = omega arith in
    let days : Jiff.days_in_year (pos (11970 + n) -ℤ pos 10000) ≡ Http.days_in_year (1970 + n) =
    ap Jiff.days_in_year (same_year n) in
    omega (arith, ap Jiff.days_of_years next, days, same_years n)

years_to_1970 : Jiff.days_of_years 11970 ≡ 4_371_953
unfolding Jiff.day_count Jiff.days_of_months
years_to_1970 =
    let count : Jiff.days_of_years 11970 + (0 + 1 - 1) ≡ 4_371_953 = day_count-epoch in
    omega (arith, count)

same_epoch : (y m d : ℕ) → 1970 ≤ y → 1 ≤ d → Jiff.days_from_civil (pos y) m d ≡ pos (Http.days_from_civil y m d)
unfolding Jiff.day_count
same_epoch y m d late first =
    let there : unsigned_abs (pos y +ℤ pos 10000) ≡ 11970 + (y - 1970) = omega arith in
    let count : Jiff.day_count (pos y) m d ≡ Jiff.days_of_years (11970 + (y - 1970)) + (Jiff.days_of_months (pos y) (m - 1) + d - 1) =
    ap (λ (n : ℕ). Jiff.days_of_years n + (Jiff.days_of_months (pos y) (m - 1) + d - 1)) there in
    omega (
      arith,
      signed_arith,
      days_from_civil-day_count (pos y) m d,
      count,
      same_years (y - 1970),
      years_to_1970,
      same_months y (m - 1),
    )

-- the texts of both crates are the same, and begin with a letter
abbrev IsBlankless : List ℕ → Type 0
IsBlankless text = (x : ℕ) × (xs : List ℕ) × (text ≡ x ∷ xs) × (is_ascii_whitespace x ≡ false)

abbrev pub fourth : List ℕ → ℕ
fourth text = get_or text 3 44

abbrev IsWeekday : ℕ → Type 0
IsWeekday n = (day_name (suc n) ≡ weekday_text n) × (monday_zero (weekday_named n) ≡ n)
    × ((rest : List ℕ) → IsBlankless (weekday_text n ++ rest))
    × ((rest : List ℕ) → (fourth (day_name (suc n) ++ day_name_rest (suc n) ++ rest) == 44) ≡ false)

is_weekday : (n : ℕ) → n < 7 → IsWeekday n
is_weekday zero h = (refl, refl, λ rest. (77, 111 ∷ 110 ∷ rest, refl, refl), λ rest. refl)
is_weekday (suc zero) h = (refl, refl, λ rest. (84, 117 ∷ 101 ∷ rest, refl, refl), λ rest. refl)
is_weekday (suc (suc zero)) h = (refl, refl, λ rest. (87, 101 ∷ 100 ∷ rest, refl, refl), λ rest. refl)
is_weekday (suc (suc (suc zero))) h = (refl, refl, λ rest. (84, 104 ∷ 117 ∷ rest, refl, refl), λ rest. refl)
is_weekday (suc (suc (suc (suc zero)))) h = (refl, refl, λ rest. (70, 114 ∷ 105 ∷ rest, refl, refl), λ rest. refl)
is_weekday (suc (suc (suc (suc (suc zero))))) h = (refl, refl, λ rest. (83, 97 ∷ 116 ∷ rest, refl, refl), λ rest. refl)
is_weekday (suc (suc (suc (suc (suc (suc zero)))))) h = (refl, refl, λ rest. (83, 117 ∷ 110 ∷ rest, refl, refl), λ rest. refl)
is_weekday (suc (suc (suc (suc (suc (suc (suc n))))))) h = absurd (omega arith)

abbrev IsMonth : ℕ → Type 0
IsMonth m = (month_name m ≡ month_text m) × ((rest : List ℕ) → NoSpace (month_text m ++ rest))

is_month : (m : ℕ) → 1 ≤ m → m ≤ 12 → IsMonth m
is_month zero low high = absurd (omega arith)
is_month (suc zero) low high = (refl, λ rest. refl)
is_month (suc (suc zero)) low high = (refl, λ rest. refl)
is_month (suc (suc (suc zero))) low high = (refl, λ rest. refl)
is_month (suc (suc (suc (suc zero)))) low high = (refl, λ rest. refl)
is_month (suc (suc (suc (suc (suc zero))))) low high = (refl, λ rest. refl)
is_month (suc (suc (suc (suc (suc (suc zero)))))) low high = (refl, λ rest. refl)
is_month (suc (suc (suc (suc (suc (suc (suc zero))))))) low high = (refl, λ rest. refl)
is_month (suc (suc (suc (suc (suc (suc (suc (suc zero)))))))) low high = (refl, λ rest. refl)
is_month (suc (suc (suc (suc (suc (suc (suc (suc (suc zero))))))))) low high = (refl, λ rest. refl)
is_month (suc (suc (suc (suc (suc (suc (suc (suc (suc (suc zero)))))))))) low high = (refl, λ rest. refl)
is_month (suc (suc (suc (suc (suc (suc (suc (suc (suc (suc (suc zero))))))))))) low high = (refl, λ rest. refl)
is_month (suc (suc (suc (suc (suc (suc (suc (suc (suc (suc (suc (suc zero)))))))))))) low high = (refl, λ rest. refl)
is_month (suc (suc (suc (suc (suc (suc (suc (suc (suc (suc (suc (suc (suc m))))))))))))) low high =
    absurd (omega arith)

digit-space : (x : ℕ) (rest : List ℕ) → 48 ≤ x → x < 58 → NoSpace (x ∷ rest)
digit-space x rest low high =
    let test : is_ascii_whitespace x ≡ false = grind (arith, nat_tests) in
    rw test

pad2-space : (n : ℕ) (rest : List ℕ) → n < 100 → NoSpace (pad2 n ++ rest)
pad2-space n rest small = digit-space (48 + n / 10) ((48 + n % 10) ∷ rest) (omega arith) (omega arith)

-- a day in two digits
day-padded : (d : ℕ) (rest : List ℕ) → 1 ≤ d → d ≤ 31 → NoSpace rest → day (pad2 d ++ 32 ∷ rest) ≡ Ok (d, rest)
unfolding day
day-padded d rest low high none =
    let range : (nat_lt d 1 || nat_lt 31 d) ≡ false = grind (arith, nat_tests) in
    let first : is_ascii_digit (48 + d / 10) ≡ true = grind (arith, nat_tests) in
    let second : is_ascii_digit (48 + d % 10) ≡ true = grind (arith, nat_tests) in
    let value : (48 + d / 10 - 48) * 10 + (48 + d % 10 - 48) ≡ d = omega arith in
    rw (first, second, value, range, space-one rest none)

datetime-text : (text : List ℕ) → IsBlankless text → datetime false text ≡ date_and_clock false text
unfolding datetime
datetime-text text h = rw (h.2, h.3)

abbrev utc : List ℕ
utc = codes "+0000"

offset-utc : offset utc ≡ Ok (pos 0, [])
unfolding offset field two_digits
offset-utc = refl

-- the parts of a date and a clock
abbrev parts_of : Parts → DateParts × TimeParts
parts_of p = (
  record { year = pos p.year; month = p.mon; day = p.day },
  record { hour = p.hour; minute = p.min; second = p.sec; subsec = 0 },
)

-- the text with a zone
abbrev dated : Parts → List ℕ → List ℕ
dated p zone =
    weekday_text (p.wday - 1) ++ 44 ∷ 32 ∷ (pad2 p.day ++ 32 ∷ (month_text p.mon ++ 32 ∷ (pad4 p.year
    ++ 32 ∷ (pad2 p.hour ++ 58 ∷ (pad2 p.min ++ 58 ∷ (pad2 p.sec ++ 32 ∷ zone))))))

date_and_clock-dated : (p : Parts) → IsValid p → date_and_clock false (dated p utc) ≡ Ok (parts_of p, utc)
date_and_clock-dated p valid =
    let civil = valid.0 in
    let time = valid.1 in
    let n = p.wday - 1 in
    let c0 = 58 ∷ (pad2 p.min ++ 58 ∷ (pad2 p.sec ++ 32 ∷ utc)) in
    let c1 = pad2 p.hour ++ c0 in
    let y1 = pad4 p.year ++ 32 ∷ c1 in
    let m1 = month_text p.mon ++ 32 ∷ y1 in
    let d1 = pad2 p.day ++ 32 ∷ m1 in
    let month_ok = civil.1 in
    let day_high : p.day ≤ 31 = grind (arith, nat_tests, civil.2.1) in
    let read_c = clock-text p.hour p.min p.sec utc (omega (arith, time.0)) (omega (arith, time.1)) (omega (arith, time.2)) refl in
    let read_y = year-text p.year c1 (omega (arith, civil.0.1)) (pad2-space p.hour c0 (omega (arith, time.0))) in
    let read_m = month-text p.mon y1 month_ok.0 month_ok.1 (pad2-space (p.year / 100) (pad2 (p.year % 100) ++ 32 ∷ c1) (omega (arith, civil.0.1))) in
    let read_d = day-padded p.day m1 civil.2.0 day_high ((is_month p.mon month_ok.0 month_ok.1).1 (32 ∷ y1)) in
    let days = same_epoch p.year p.mon p.day civil.0.0 civil.2.0 in
    let number : Jiff.weekday_number (Jiff.days_from_civil (pos p.year) p.mon p.day) ≡ n =
    ap Jiff.weekday_number days ∙ weekday_number-parts (pos (Http.days_from_civil p.year p.mon p.day))
    ∙ omega (arith, signed_arith, valid.2) in
    let small : n < 7 = omega (arith, valid.2) in
    let read_w = weekday-text n d1 small (pad2-space p.day (32 ∷ m1) (omega (arith, day_high))) in
    let days_ok : nat_lt (Jiff.days_in_month (pos p.year) p.mon) p.day ≡ false = grind (arith, nat_tests, civil.2.1) in
    let named = (is_weekday n small).1 in
    let same_w : (monday_zero (weekday_named n) == Jiff.weekday_number (Jiff.days_from_civil (pos p.year) p.mon p.day)) ≡ true =
    grind (arith, nat_tests, named, number) in
    rw (read_w, read_d, read_m, read_y, read_c, days_ok, same_w)

timestamp-dated : (p : Parts) → IsValid p → IsTimestampNanos (pos (parts_secs p * 1_000_000_000))
    → timestamp false (dated p utc) ≡ Ok (pos (parts_secs p * 1_000_000_000))
timestamp-dated p valid fits =
    let civil = valid.0 in
    let small : p.wday - 1 < 7 = omega (arith, valid.2) in
    let text = dated p utc in
    let start = datetime-text text ((is_weekday (p.wday - 1) small).2 _) in
    let reads : datetime_offset false text ≡ Ok ((parts_of p, pos 0), []) =
    rw (start, date_and_clock-dated p valid, offset-utc) in
    let days = same_epoch p.year p.mon p.day civil.0.0 civil.2.0 in
    let value : parts_nanos (parts_of p).0 (parts_of p).1 -ℤ nanos_of_seconds (pos 0) ≡ pos (parts_secs p * 1_000_000_000) =
    omega (arith, signed_arith, days) in
    rw (timestamp_with_offset-parts false text [] (parts_of p).0 (parts_of p).1 (pos 0) reads, value, instant-ok _ fits)

imf_fixdate-dated : (p : Parts) → IsValid p → imf_fixdate p ≡ dated p [] ++ codes "GMT"
imf_fixdate-dated p valid =
    let n = p.wday - 1 in
    let small : n < 7 = omega (arith, valid.2) in
    let wday : suc n ≡ p.wday = omega (arith, valid.2) in
    let name : day_name p.wday ≡ weekday_text n = subst (λ w. day_name w ≡ weekday_text n) wday (is_weekday n small).0 in
    let month = (is_month p.mon valid.0.1.0 valid.0.1.1).0 in
    rw (name, month) (simp append_assoc refl)

with_offset-gmt : (front : List ℕ) → with_offset (front ++ codes "GMT") ≡ front ++ codes "+0000"
with_offset-gmt front =
    let n : length (front ++ codes "GMT") - 3 ≡ length front = omega (arith, length-append front (codes "GMT")) in
    rw (n, drop-append_seam front (codes "GMT"), take-append_seam front (codes "GMT")) refl

-- A date of httpdate with a comma after the weekday's three letters is an IMF-fixdate, and jiff
-- reads its second where the zone is a number.
fixdate-read : (text : List ℕ) (d : HttpDate) → IsDateText text d → fourth text ≡ 44
    → IsTimestampNanos (pos (unix_secs d * 1_000_000_000))
    → timestamp false (with_offset text) ≡ Ok (pos (unix_secs d * 1_000_000_000))
fixdate-read text d (inl imf) comma fits =
    let p = d.parts in
    let valid : IsValid p = (d.civil, d.time, d.right_day) in
    let zone : with_offset text ≡ dated p utc =
    ap with_offset (imf ∙ imf_fixdate-dated p valid) ∙ with_offset-gmt (dated p []) ∙ simp append_assoc refl in
    rw zone (timestamp-dated p valid fits)
fixdate-read text d (inr (inl rfc850)) comma fits =
    let n = d.parts.wday - 1 in
    let wday : suc n ≡ d.parts.wday = omega (arith, d.right_day) in
    absurd (grind (arith, nat_tests))
fixdate-read text d (inr (inr (inl asctime))) comma fits = absurd (grind (arith, nat_tests))
fixdate-read text d (inr (inr (inr asctime))) comma fits = absurd (grind (arith, nat_tests))

pub fixdate-second : {E : Type 0} (text : List ℕ) (d : HttpDate) (seconds : ℤ) (r : Result Timestamp E) → IsDateText text d
    → fourth text ≡ 44 → seconds ≡ pos (unix_secs d)
    → IfOk r (λ t. t.nanosecond ≡ seconds *ℤ pos 1_000_000_000)
    → IfSome (result_ok r) (λ date. Some date.nanosecond ≡ option_map second_start (when text))
unfolding when read_second
fixdate-second text d seconds (Err e) shown comma same value = tt
fixdate-second text d seconds (Ok t) shown comma same value =
    let nanos : t.nanosecond ≡ pos (unix_secs d * 1_000_000_000) = omega (arith, signed_arith, value, same) in
    let reads = fixdate-read text d shown comma (subst IsTimestampNanos nanos t.in_range) in
    let second : int_div_euclid (pos (unix_secs d * 1_000_000_000)) (pos 1_000_000_000) *ℤ pos 1_000_000_000 ≡ t.nanosecond =
    omega (arith, signed_arith, nanos) in
    rw (reads, second) refl

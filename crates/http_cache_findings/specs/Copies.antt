-- Copies of recorded entries, with all their times moved.
use Rattle.std.specs.Prelude.{◌≡◌, ℕ, ℤ, pos, neg_ℤ, ◌+ℤ◌, int_le, ◌&&◌, Bool, true, false, List, [], ◌++◌, codes, nat_eq}
use Rattle.std.specs.Prelude.{Option, Some, None, option_map, option_and_then, slice_get, MatchOption, if◌then◌else◌}
use Rattle.std.specs.List.{list_any}
use Rattle.std.specs.Option.{option_map_or}
use Rattle.std.specs.FinMap as fin
use Rattle.http_header.specs.FieldValue.{FieldValue}
use Rattle.http_cache_fields.specs.Headers.{Headers, set}
use Rattle.http_cache_rules.specs.Messages.{ResponseSeen}
use Rattle.http_cache_rules.specs.Dates.{first_date, IsHttpDate, IsPrintable}
use Rattle.http_cache_recording.specs.Entry.{RecordedSeen, PrintedSeen, EntrySeen, ReadingSeen, entry, skipped}
use Rattle.http_cache_recording.specs.Entry.{AnswerSeen, failed, cached, received}
use Rattle.http_cache_recording.specs.declared.entry.Kind.TheVariants.{Asked}
use Rattle.http_cache_walk.specs.Order.{entry_in}
use Rattle.http_cache_findings.specs.declared.visit.Repeat.{Repeat}

-- ---- times

-- a time can be so many nanoseconds after 1970
abbrev pub is_time : ℤ → Bool
is_time n =
    int_le (neg_ℤ (pos 377_705_023_201_000_000_000)) n && int_le n (pos 253_402_207_200_999_999_999)

-- the time moved by so many nanoseconds, or itself if the result is out of range
unfoldable pub moved : ℤ → ℤ → ℤ
moved shift at = if is_time (at +ℤ shift) then at +ℤ shift else at

-- ---- dates

-- the value is the date of the time; there is none only before 1900
abbrev pub IsDateValue : ℤ → Option FieldValue → Type 0
IsDateValue at None = IsPrintable at → ⊥
IsDateValue at (Some value) = IsHttpDate at value.bytes

abbrev pub IsDated : ℤ → List ℕ → Headers → Headers → Type 0
IsDated at name old new =
    (value : Option FieldValue) × IsDateValue at value × (new ≡ option_map_or (λ v. set old name v.bytes) value old)

-- if the first line of the name is a date, it is moved
abbrev pub IsMovedUnder : ℤ → List ℕ → Headers → Headers → Type 0
IsMovedUnder shift name old new =
    MatchOption (first_date old name) (new ≡ old) (λ at. IsDated (moved shift at) name old new)

pub record AreMovedHeaders (shift : ℤ) (old new : Headers) : Type 0 where
  pub between : Headers
  pub date : IsMovedUnder shift (codes "date") old between
  pub expires : IsMovedUnder shift (codes "expires") between new

-- ---- answers

pub record IsMovedResponse (shift : ℤ) (old new : ResponseSeen) : Type 0 where
  pub status : new.status ≡ old.status
  pub headers : AreMovedHeaders shift old.headers new.headers

-- the answer is unchanged, except that the dates of its response are moved
abbrev pub IsMovedAnswer : ℤ → AnswerSeen → AnswerSeen → Type 0
IsMovedAnswer shift failed new = new ≡ failed
IsMovedAnswer shift (cached r) failed = ⊥
IsMovedAnswer shift (cached r) (cached s) = IsMovedResponse shift r s
IsMovedAnswer shift (cached r) (received s) = ⊥
IsMovedAnswer shift (received r) failed = ⊥
IsMovedAnswer shift (received r) (cached s) = ⊥
IsMovedAnswer shift (received r) (received s) = IsMovedResponse shift r s

-- ---- entries

-- the headers of a request without conditions, which are for what was stored before
abbrev pub unconditional : Headers → Headers
unconditional h = fin.remove (fin.remove h (codes "if-none-match")) (codes "if-modified-since")

-- the copy has the request's own times, moved, and the request headers and the answer of another
-- entry
pub record IsCopiedEntry (shift : ℤ) (own full copy : EntrySeen) : Type 0 where
  pub kind : copy.kind ≡ Asked
  pub started : copy.started ≡ moved shift own.started
  pub received : copy.received ≡ moved shift own.received
  pub method : copy.method ≡ own.method
  pub headers : copy.headers ≡ unconditional full.headers
  pub answer : IsMovedAnswer shift full.answer copy.answer
  pub body : copy.body ≡ None

abbrev pub IsNoCopy : ReadingSeen → Type 0
IsNoCopy copy = copy ≡ skipped []

-- the copy of a request, or an entry that isn't audited if either entry isn't
abbrev pub IsCopiedReading : ℤ → Option EntrySeen → Option EntrySeen → ReadingSeen → Type 0
IsCopiedReading shift None full copy = IsNoCopy copy
IsCopiedReading shift (Some own) None copy = IsNoCopy copy
IsCopiedReading shift (Some own) (Some full) (entry copy) = IsCopiedEntry shift own full copy
IsCopiedReading shift (Some own) (Some full) (skipped reason) = ⊥

-- ---- what is printed

-- the url with one more parameter in its query
abbrev pub marked : List ℕ → List ℕ
marked url = url ++ (if list_any (λ b. nat_eq b 63) url then codes "&visit" else codes "?visit")

abbrev pub copied_url : Bool → Option (List ℕ) → Option (List ℕ)
copied_url true url = option_map marked url
copied_url false url = url

abbrev pub copied_printed : Bool → PrintedSeen → PrintedSeen
copied_printed other_query p = record p { url = copied_url other_query p.url; page = None }

abbrev pub nothing_printed : PrintedSeen
nothing_printed = record {
  method = None;
  url = None;
  status = 0;
  browser = None;
  error = None;
  sent = 0;
  head = 0;
  page = None;
}

-- ---- copies

abbrev pub printed_at : List RecordedSeen → ℕ → Bool → PrintedSeen
printed_at rs index other_query =
    option_map_or (λ (r : RecordedSeen). copied_printed other_query r.printed) (slice_get rs index) nothing_printed

abbrev pub entry_at : List RecordedSeen → ℕ → Option EntrySeen
entry_at rs index = option_and_then (λ (r : RecordedSeen). entry_in r.reading) (slice_get rs index)

-- the copy of a recorded request, with the full response to it
pub record IsCopy (rs : List RecordedSeen) (shift : ℤ) (r : Repeat) (copy : RecordedSeen) : Type 0 where
  pub printed : copy.printed ≡ printed_at rs r.entry r.other_query
  pub reading : IsCopiedReading shift (entry_at rs r.entry) (entry_at rs r.full) copy.reading

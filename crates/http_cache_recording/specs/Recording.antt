-- Recorded sessions.
use Rattle.std.specs.Prelude.{◌≡◌, ◌<◌, ◌+◌, ◌-◌, ⊤, ℕ, ◌==◌, ◌||◌, ◌&&◌, not, fold, take, Bool, nat_eq, List, [], ◌∷◌, length, Option, Some, None, IsSomeAnd, codes, bytes_eq}
use Rattle.std.specs.Prelude.{true, false, if◌then◌else◌, unwrap_or}
use Rattle.std.specs.Option.{option_or, option_map_or}
use Rattle.std.specs.Str.{IsUtf8}
use Rattle.std.specs.List.{AllZip, starts_with}
use Rattle.serde_json.specs.Data.{Data, Items, no_items, item}
use Rattle.serde_json.specs.Read.{read as read_text}
use Rattle.serde_json.specs.Find.{get, as_array, as_str}
use Rattle.http_cache_json.specs.Form.{◌>>=◌}
use Rattle.http_cache_json.specs.Lists.{values_of}
use Rattle.http_cache_recording.specs.declared.recording.Nesting.{Nesting}
use Rattle.http_cache_recording.specs.declared.element.Reader.{Reader}
use Rattle.http_cache_recording.specs.declared.error.ReadingError.{ReadingError}
use Rattle.http_cache_recording.specs.declared.error.ReadingError.TheVariants.{Memory, Empty, Compressed, Utf16}
use Rattle.http_cache_recording.specs.declared.error.ReadingError.TheVariants.{NotJson, TooDeep, NumberOutOfRange}
use Rattle.http_cache_recording.specs.declared.error.ReadingError.TheVariants.{NoEntries}
use Rattle.http_cache_recording.specs.Entry.{RecordedSeen}
use Rattle.http_cache_recording.specs.Mend.{text_of}
use Rattle.http_cache_recording.specs.Element.{IsRecorded}

abbrev pub list_of_log : Data → Option Items
list_of_log log = get (codes "entries") log >>= as_array

abbrev pub list_in_log : Data → Option Items
list_in_log d = get (codes "log") d >>= list_of_log

-- its log's entries, its own if it is the log, or itself
unfoldable pub entries_of : Data → Option Items
entries_of d = option_or (list_in_log d) (option_or (list_of_log d) (as_array d))

abbrev pub log_of : Data → Data
log_of d = unwrap_or (get (codes "log") d) d

-- the program that wrote the recording
unfoldable pub creator_of : Data → Option (List ℕ)
creator_of d = get (codes "creator") (log_of d) >>= get (codes "name") >>= as_str

abbrev pub pages_of : Data → Option Items
pages_of d = get (codes "pages") (log_of d) >>= as_array

abbrev pub is_item : Items → Bool
is_item no_items = false
is_item (item d ds) = true

abbrev pub has_pages : Data → Bool
has_pages d = option_map_or is_item (pages_of d) false

abbrev pub is_by_firefox : Data → Bool
is_by_firefox d = option_map_or (λ t. bytes_eq t (codes "Firefox")) (creator_of d) false

abbrev pub reader_of : Bool → Data → Reader
reader_of ignores d = record { is_firefox = is_by_firefox d; ignores_no_cache = ignores; has_pages = has_pages d }

abbrev pub AreEntries : Bool → Data → List RecordedSeen → Type 0
AreEntries ignores d rs =
    IsSomeAnd (entries_of d)
    (λ ds. AllZip (IsRecorded (reader_of ignores d)) (values_of ds) rs)

pub record IsJson (bytes : List ℕ) (d : Data) : Type 0 where
  pub utf8 : IsUtf8 (text_of bytes)
  pub value : read_text (text_of bytes) ≡ Some d

pub record IsRecording (ignores : Bool) (bytes : List ℕ) (rs : List RecordedSeen) : Type 0 where
  pub log : Data
  pub json : IsJson bytes log
  pub entries : AreEntries ignores log rs

abbrev pub begins : List ℕ → ℕ → ℕ → Bool
begins bytes a b = starts_with nat_eq bytes (a ∷ b ∷ [])

-- by gzip or zlib (RFC 1952, section 2.3.1; RFC 1950, section 2.2)
abbrev pub is_compressed : List ℕ → Bool
is_compressed bytes =
    begins bytes 31 139 || begins bytes 120 1 || begins bytes 120 94 || begins bytes 120 156 || begins bytes 120 218

-- an object in UTF-16, or a byte order mark of UTF-16
abbrev pub is_utf16 : List ℕ → Bool
is_utf16 bytes = begins bytes 255 254 || begins bytes 254 255 || begins bytes 123 0 || begins bytes 0 123

unfoldable pub other_form : List ℕ → Option ReadingError
other_form bytes =
    if length bytes == 0 then Some Empty
    else (if is_compressed bytes then Some Compressed else (if is_utf16 bytes then Some Utf16 else None))

-- the byte is in no string
abbrev pub depth_after : ℕ → ℕ → ℕ
depth_after depth b =
    if b == 91 || b == 123 then depth + 1 else (if b == 93 || b == 125 then depth - 1 else depth)

-- lists and objects, perhaps a string, and there perhaps an escape
abbrev pub nesting_after : Nesting → ℕ → Nesting
nesting_after n b = record {
  depth = if n.in_string then n.depth else depth_after n.depth b;
  in_string = if b == 34 && not n.is_escaped then not n.in_string else n.in_string;
  is_escaped = n.in_string && not n.is_escaped && b == 92;
}

abbrev pub nesting_of : List ℕ → Nesting
nesting_of text = fold nesting_after (record { depth = 0; in_string = false; is_escaped = false }) text

-- more than 127 lists and objects are open after some of the bytes
abbrev pub IsTooDeep : List ℕ → Type 0
IsTooDeep text = (n : ℕ) × (127 < (nesting_of (take n text)).depth)

abbrev pub IsCause : List ℕ → ReadingError → Type 0
IsCause bytes Memory = ⊤
IsCause bytes Empty = other_form bytes ≡ Some Empty
IsCause bytes Compressed = other_form bytes ≡ Some Compressed
IsCause bytes Utf16 = other_form bytes ≡ Some Utf16
IsCause bytes (NotJson line column) = (d : Data) → IsJson bytes d → ⊥
IsCause bytes (TooDeep line column) = IsTooDeep (text_of bytes) × ((d : Data) → IsJson bytes d → ⊥)
IsCause bytes (NumberOutOfRange line column) = (d : Data) → IsJson bytes d → ⊥
IsCause bytes NoEntries = (d : Data) → IsJson bytes d → entries_of d ≡ None

-- the error only says that a text is no JSON, and how deeply it nests
abbrev pub IsFault : List ℕ → ReadingError → Type 0
IsFault text e = (bytes : List ℕ) → text_of bytes ≡ text → ((d : Data) → IsJson bytes d → ⊥) → IsCause bytes e

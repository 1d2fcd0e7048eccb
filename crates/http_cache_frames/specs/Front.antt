-- What the bytes of the input begin with.
use Rattle.std.specs.Prelude.{◌≡◌, ◌⊎◌, ◌≤◌, ◌<◌, ◌+◌, ℕ, List, Option, Some, None, length, take, is_some, true, codes, IsUtf8}
use Rattle.memchr.specs.Find.{IsFirstByte, is_byte}
use Rattle.serde_json.specs.Data.{Data}
use Rattle.serde_json.specs.View.{view}
use Rattle.serde_json.specs.Find.{as_object}
use Rattle.serde_json.specs.Read.{read}
use Rattle.http_cache_frames.specs.Line.{length_under}
use Rattle.http_cache_frames.specs.declared.front.Announced.{Announced}
use Rattle.http_cache_frames.specs.declared.front.Front.{Front}
use Rattle.http_cache_frames.specs.declared.front.Front.TheVariants.{Line, Partial, Broken}
use Rattle.http_cache_frames.specs.declared.front.NoFrame.TheVariants.{LongLine, NoObject, NoLength, Cut}

-- the greatest length of a line in bytes, without its line feed
abbrev pub longest_line : ℕ
longest_line = 4096

-- the bytes that have to contain the line feed
abbrev pub within_line : List ℕ → List ℕ
within_line bytes = take (longest_line + 1) bytes

-- the number of bytes before the first line feed, if a line may have as many
abbrev pub EndsAt : List ℕ → Option ℕ → Type 0
EndsAt bytes position = IsFirstByte (is_byte 10) (within_line bytes) position

pub record IsJson (bytes : List ℕ) (d : Data) : Type 0 where
  pub utf8 : IsUtf8 bytes
  pub is_read : read bytes ≡ Some d

abbrev pub IsObject : Data → Type 0
IsObject d = is_some (as_object d) ≡ true

-- the line of `count` bytes has these lengths
pub record IsAnnounced (d : Data) (count : ℕ) (a : Announced) : Type 0 where
  pub object : IsObject d
  pub line : view a.line ≡ d
  pub length : a.length ≡ count + 1
  pub head : length_under (codes "head") d ≡ Some a.head
  pub body : length_under (codes "body") d ≡ Some a.body

abbrev pub LacksLength : Data → Type 0
LacksLength d = (length_under (codes "head") d ≡ None) ⊎ (length_under (codes "body") d ≡ None)

-- what a JSON line of `count` bytes announces
abbrev pub IsFrontOfLine : Data → ℕ → Front → Type 0
IsFrontOfLine d count (Line a) = IsAnnounced d count a
IsFrontOfLine d count Partial = ⊥
IsFrontOfLine d count (Broken LongLine) = ⊥
IsFrontOfLine d count (Broken NoObject) = ¬ (IsObject d)
IsFrontOfLine d count (Broken NoLength) = IsObject d × LacksLength d
IsFrontOfLine d count (Broken Cut) = ⊥

pub record IsLine (bytes : List ℕ) (a : Announced) : Type 0 where
  pub count : ℕ
  pub said : Data
  pub ends : EndsAt bytes (Some count)
  pub json : IsJson (take count bytes) said
  pub announced : IsAnnounced said count a

-- the bytes begin with a line that is no JSON object
pub record IsNoObject (bytes : List ℕ) : Type 0 where
  pub count : ℕ
  pub ends : EndsAt bytes (Some count)
  pub no_object : (d : Data) → IsJson (take count bytes) d → ¬ (IsObject d)

-- the bytes begin with a line that has an invalid length
pub record HasNoLength (bytes : List ℕ) : Type 0 where
  pub count : ℕ
  pub said : Data
  pub ends : EndsAt bytes (Some count)
  pub json : IsJson (take count bytes) said
  pub object : IsObject said
  pub lacks : LacksLength said

abbrev pub IsFront : List ℕ → Front → Type 0
IsFront bytes (Line a) = IsLine bytes a
IsFront bytes Partial = EndsAt bytes None × (length bytes ≤ longest_line)
IsFront bytes (Broken LongLine) = EndsAt bytes None × (longest_line < length bytes)
IsFront bytes (Broken NoObject) = IsNoObject bytes
IsFront bytes (Broken NoLength) = HasNoLength bytes
IsFront bytes (Broken Cut) = ⊥

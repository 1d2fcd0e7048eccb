-- Heads of responses, as curl prints them, and what they record.
use Rattle.std.specs.Prelude.{◌≡◌, ℕ, ◌+◌, ◌-◌, ◌^◌, min, ℤ, nat_eq, nat_lt, ◌==◌, ◌||◌, ◌&&◌, not, Bool, true, false, if◌then◌else◌}
use Rattle.std.specs.Prelude.{List, [], ◌∷◌, ◌++◌, length, map, take, drop, count_by, Option, Some, None, unwrap_or, codes, decimal, ⊤}
use Rattle.std.specs.List.{starts_with, ends_with, prefix_len, list_all, filter, enumerate_from}
use Rattle.std.specs.Option.{option_or, option_map_or}
use Rattle.std.specs.Char.{is_ascii_digit}
use Rattle.http_heads.specs.Heads.{IsResponse, IsNoResponse, OverfillsResponse}
use Rattle.http_cache_fields.specs.Headers.{Headers, headers_of}
use Rattle.http_cache_fields.specs.Number.{number}
use Rattle.http_cache_rules.specs.Conditions.{only_text}
use Rattle.http_cache_rules.specs.Lifetimes.{server_date}
use Rattle.http_cache_rules.specs.Messages.{response_seen}
use Rattle.http_cache_recording.specs.declared.entry.Kind.TheVariants.{Asked}
use Rattle.http_cache_recording.specs.Entry.{PrintedSeen, EntrySeen, RecordedSeen, entry, received}
use Rattle.http_cache_recording.specs.declared.heads.Head.{Head}
use Rattle.http_cache_recording.specs.declared.heads.HeadsError.{HeadsError}
use Rattle.http_cache_recording.specs.declared.heads.HeadsError.TheVariants.{NotAHead, NotAField, TooLong, NoHead, Memory}

-- ---- where heads are

abbrev pub is_heads : List ℕ → Bool
is_heads bytes = starts_with nat_eq bytes (codes "HTTP/")

-- CR or LF
abbrev pub is_end : ℕ → Bool
is_end b = b == 13 || b == 10

abbrev pub front_of : List ℕ → List ℕ
front_of bytes = drop (prefix_len is_end bytes) bytes

-- the bytes begin with the LF of a line that an empty line follows
abbrev pub is_last : List ℕ → Bool
is_last bytes = starts_with nat_eq bytes (codes "\n\n") || starts_with nat_eq bytes (codes "\n\r\n")

-- the number of bytes up to the first line that an empty line follows, with that line, or of all
-- bytes
abbrev pub text_len : List ℕ → ℕ
text_len [] = 0
text_len (b ∷ bytes) = if is_last (b ∷ bytes) then 1 else text_len bytes + 1

-- the status line and field lines at the front
abbrev pub text_of : List ℕ → List ℕ
text_of front = take (text_len front) front

abbrev pub end_len : List ℕ → ℕ
end_len bytes =
    if starts_with nat_eq bytes (codes "\r\n") then 2 else (if starts_with nat_eq bytes (codes "\n") then 1 else 0)

-- the length of the head at the front, with its empty line
abbrev pub head_len : List ℕ → ℕ
head_len front = text_len front + end_len (drop (text_len front) front)

-- the position at which the next head would begin
abbrev pub next_of : List ℕ → List ℕ
next_of front = front_of (drop (head_len front) front)

-- ---- a head as one of HTTP/1.1

abbrev pub after : List ℕ → List ℕ → Option (List ℕ)
after prefix bytes = if starts_with nat_eq bytes prefix then Some (drop (length prefix) bytes) else None

-- the text after the version, if that is HTTP/2 or HTTP/3
abbrev pub after_version : List ℕ → Option (List ℕ)
after_version text =
    option_or (after (codes "HTTP/2.0") text) (option_or (after (codes "HTTP/2") text) (after (codes "HTTP/3") text))

-- the text, in which HTTP/1.1 replaces HTTP/2 or HTTP/3
unfoldable pub as_http1 : List ℕ → List ℕ
as_http1 text = option_map_or (λ rest. codes "HTTP/1.1" ++ rest) (after_version text) text

-- the end of a head after its text: an empty line, or the rest of one that is cut off
unfoldable pub closing : List ℕ → List ℕ
closing text =
    if ends_with nat_eq text (codes "\n") || ends_with nat_eq text (codes "\n\r") then codes "\n" else codes "\n\n"

abbrev pub whole : List ℕ → List ℕ
whole text = as_http1 text ++ closing text

-- ---- the heads of the input

-- the head at the front, and whether another one follows it
pub record IsHead (front : List ℕ) (h : Head) : Type 0 where
  pub reads : IsResponse (whole (text_of front)) h.parts
  pub length : h.length ≡ head_len front
  pub followed : h.followed ≡ is_heads (next_of front)

-- consecutive heads begin here, and this is left
abbrev pub AreHeads : List ℕ → List Head → List ℕ → Type 0
AreHeads front [] rest = front ≡ rest
AreHeads front (h ∷ hs) rest = (is_heads front ≡ true) × IsHead front h × AreHeads (next_of front) hs rest

-- the heads of the bytes, up to what is no head
pub record HasHeads (bytes : List ℕ) (hs : List Head) : Type 0 where
  pub rest : List ℕ
  pub heads : AreHeads (front_of bytes) hs rest
  pub ended : is_heads rest ≡ false

-- ---- what is recorded of them

-- the head is a proxy's `200 Connection established`: it has no field, and another head follows
abbrev pub is_of_proxy : Head → Bool
is_of_proxy h = (h.parts.status == 200) && h.followed && (length h.parts.headers == 0)

-- the head isn't a final response of the origin server
unfoldable pub is_skipped : Head → Bool
is_skipped h = nat_lt h.parts.status 200 || is_of_proxy h

abbrev pub is_kept : Head → Bool
is_kept h = not (is_skipped h)

abbrev pub is_digits : List ℕ → Bool
is_digits text = not (length text == 0) && list_all is_ascii_digit text

-- the number that digits write, at most the greatest 64-bit number; 0 for any other text
abbrev pub size_of : List ℕ → ℕ
size_of text = if is_digits text then unwrap_or (number text) (2 ^ 64 - 1) else 0

abbrev pub content_length : Headers → ℕ
content_length h = option_map_or size_of (only_text h (codes "content-length")) 0

unfoldable pub printed_of : ℕ → Head → PrintedSeen
printed_of n h = record {
  method = Some (codes "GET");
  url = Some (codes "head " ++ decimal n);
  status = h.parts.status;
  browser = None;
  error = None;
  sent = min (h.length + content_length (headers_of h.parts.headers)) (2 ^ 64 - 1);
  head = h.length;
  page = None;
}

-- a request without headers, and the head as its response, at the time of its Date or else now
unfoldable pub entry_of : ℤ → Head → EntrySeen
entry_of now h =
    let date = server_date (headers_of h.parts.headers) now in
    record {
      kind = Asked;
      started = date;
      received = date;
      method = codes "GET";
      headers = headers_of [];
      answer = received (response_seen h.parts);
      body = None;
    }

abbrev pub recorded_of : ℤ → ℕ × Head → RecordedSeen
recorded_of now at = record { printed = printed_of at.0 at.1; reading = entry (entry_of now at.1) }

-- the heads that aren't skipped, by their numbers
abbrev pub recorded_all : ℤ → List Head → List RecordedSeen
recorded_all now hs = map (recorded_of now) (enumerate_from 1 (filter is_kept hs))

-- the recorded heads, with one more unless it is skipped
abbrev pub with_head : ℤ → List RecordedSeen → Head → List RecordedSeen
with_head now rs h = if is_kept h then rs ++ recorded_of now (length rs + 1, h) ∷ [] else rs

-- the bytes are heads of responses, and record this
pub record IsHeads (now : ℤ) (bytes : List ℕ) (rs : List RecordedSeen) : Type 0 where
  pub heads : List Head
  pub are : HasHeads bytes heads
  pub rows : rs ≡ recorded_all now heads

-- ---- why they aren't

-- the line at which the last bytes begin
abbrev pub line_of : List ℕ → List ℕ → ℕ
line_of bytes front = count_by (λ b. b == 10) (take (length bytes - length front) bytes) + 1

-- what an error says of the remaining bytes, which begin like a head
abbrev pub IsFault : List ℕ → List ℕ → HeadsError → Type 0
IsFault bytes front (NotAHead line) = (line ≡ line_of bytes front) × IsNoResponse (whole (text_of front))
IsFault bytes front (NotAField line name) = IsNoResponse (whole (text_of front))
IsFault bytes front (TooLong line) = (line ≡ line_of bytes front) × OverfillsResponse (whole (text_of front))
IsFault bytes front NoHead = ⊥
IsFault bytes front Memory = ⊤

-- after some heads the next one can't be read
pub record HasFault (bytes : List ℕ) (e : HeadsError) : Type 0 where
  pub heads : List Head
  pub front : List ℕ
  pub are : AreHeads (front_of bytes) heads front
  pub begins : is_heads front ≡ true
  pub fault : IsFault bytes front e

pub record HasNone (bytes : List ℕ) : Type 0 where
  pub heads : List Head
  pub are : HasHeads bytes heads
  pub none : filter is_kept heads ≡ []

-- what an error says of the bytes
abbrev pub IsCause : List ℕ → HeadsError → Type 0
IsCause bytes (NotAHead line) = HasFault bytes (NotAHead line)
IsCause bytes (NotAField line name) = HasFault bytes (NotAField line name)
IsCause bytes (TooLong line) = HasFault bytes (TooLong line)
IsCause bytes NoHead = HasNone bytes
IsCause bytes Memory = ⊤

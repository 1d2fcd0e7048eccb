-- What may be printed of an entry, and what it says of its response.
use Rattle.std.specs.Prelude.{ℕ, ◌+◌, ◌-◌, ◌==◌, ◌&&◌, ◌||◌, not, nat_lt, Bool, List, [], ◌∷◌, drop, take, codes, bytes_eq, ◌≡◌, ◌<◌, ◌≤◌, ◌^◌}
use Rattle.std.specs.Prelude.{Option, Some, None, option_map, option_and_then, is_some, unwrap_or, if◌then◌else◌, false, MatchOption, IsSomeAnd}
use Rattle.std.specs.Option.{option_or, option_map_or}
use Rattle.std.specs.Str.{IsCharBoundary}
use Rattle.percent_encoding.specs.declared.ascii_set.AsciiSet.{AsciiSet}
use Rattle.percent_encoding.specs.Percent.{percent_encode}
use Rattle.serde_json.specs.Data.{Data}
use Rattle.serde_json.specs.Find.{get, as_bool, as_str, as_number, as_object, as_u64}
use Rattle.http_cache_json.specs.Form.{◌>>=◌, given}
use Rattle.http_cache_recording.specs.declared.element.Reader.{Reader}
use Rattle.http_cache_recording.specs.Entry.{PrintedSeen}
use Rattle.http_cache_recording.specs.Number.{whole}
use Rattle.http_cache_recording.specs.Target.{user_len}

abbrev pub member_of : List ℕ → List ℕ → Data → Option Data
member_of outer inner d = get outer d >>= get inner

abbrev pub some_text : List ℕ → Option (List ℕ)
some_text [] = None
some_text (b ∷ bs) = Some (b ∷ bs)

abbrev pub text_in : List ℕ → Data → Option (List ℕ)
text_in name d = get name d >>= as_str

abbrev pub some_text_in : List ℕ → Data → Option (List ℕ)
some_text_in name d = text_in name d >>= some_text

unfoldable pub request_text : List ℕ → Data → Option (List ℕ)
request_text name d = get (codes "request") d >>= text_in name

unfoldable pub method_of : Data → Option (List ℕ)
method_of d = request_text (codes "method") d >>= some_text

-- the text after the last `@` before its first `?` or `#`
unfoldable pub without_credentials : List ℕ → List ℕ
without_credentials text = drop (user_len 63 35 text) text

-- the longest beginning of at most 200 bytes that ends between characters
abbrev pub IsFront : List ℕ → List ℕ → Type 0
IsFront text front =
    (n : ℕ) × (n ≤ 200) × IsCharBoundary text n × ((i : ℕ) → n < i → i ≤ 200 → ¬ (IsCharBoundary text i))
    × (front ≡ take n text)

-- what may be printed of the url of an entry that isn't audited
abbrev pub IsSkippedUrl : Data → Option (List ℕ) → Type 0
IsSkippedUrl d shown =
    MatchOption (request_text (codes "url") d) (shown ≡ None)
    (λ url. IsSomeAnd shown (IsFront (without_credentials url)))

-- or 0
unfoldable pub status_of : Data → ℕ
status_of d = unwrap_or (whole (member_of (codes "response") (codes "status") d)) 0

-- if it is a whole number
abbrev pub size_of_headers : List ℕ → Data → Option ℕ
size_of_headers message d =
    member_of message (codes "headersSize") d >>= (λ size. option_and_then as_u64 (as_number size))

unfoldable pub has_no_size : List ℕ → Data → Bool
has_no_size message d = unwrap_or (option_map (λ n. n == 0) (size_of_headers message d)) false

-- Firefox answered from its cache: messages without a size, of a server without an address
unfoldable pub is_by_firefox : Data → Bool
is_by_firefox d =
    nat_lt 0 (status_of d) && has_no_size (codes "request") d && has_no_size (codes "response") d
    && not (is_some (some_text_in (codes "serverIPAddress") d))

abbrev pub response_size : List ℕ → Data → Option ℕ
response_size name d = whole (member_of (codes "response") name d)

abbrev pub safari_name : List ℕ → Option (List ℕ)
safari_name t =
    if bytes_eq t (codes "Memory Cache") then Some (codes "memory")
    else (if bytes_eq t (codes "Disk Cache") then Some (codes "disk") else None)

unfoldable pub safari_cache : Data → Option (List ℕ)
safari_cache d = text_in (codes "_fetchType") d >>= safari_name

-- the response was stored before the request (`cache.beforeRequest`), and no byte of its body was
-- sent
unfoldable pub is_by_state : Data → Bool
is_by_state d =
    option_map_or (λ state. is_some (as_object state)) (member_of (codes "cache") (codes "beforeRequest") d) false
    && nat_lt 0 (status_of d) && not (status_of d == 304)
    && option_map_or (λ n. n == 0) (response_size (codes "bodySize") d) false
    && (unwrap_or (response_size (codes "_transferSize") d) 0 == 0)

-- Chromium's mark of an answer from a service worker
abbrev pub worker_flag : Data → Option Bool
worker_flag d = member_of (codes "response") (codes "_fetchedViaServiceWorker") d >>= as_bool

-- a service worker answered, as Chromium or Safari records
unfoldable pub is_by_worker : Data → Bool
is_by_worker d =
    unwrap_or (worker_flag d) false
    || option_map_or (λ t. bytes_eq t (codes "Service Worker")) (text_in (codes "_fetchType") d) false

-- the mark of the browser's own cache
unfoldable pub cache_of : Data → Option (List ℕ)
cache_of d =
    option_or (some_text_in (codes "_fromCache") d) (option_or (safari_cache d)
    (option_or (given (is_by_firefox d) (codes "firefox")) (given (is_by_state d) (codes "cache"))))

-- the browser's name for its own cache, if that answered and no service worker
unfoldable pub browser_of : Data → Option (List ℕ)
browser_of d = if is_by_worker d then None else cache_of d

-- by the browser or by Playwright
abbrev pub error_in : Data → Option (List ℕ)
error_in response = option_or (some_text_in (codes "_error") response) (some_text_in (codes "_failureText") response)

unfoldable pub error_of : Data → Option (List ℕ)
error_of d = get (codes "response") d >>= error_in

-- or 0
abbrev pub content_number : List ℕ → Data → ℕ
content_number name content = unwrap_or (whole (get name content)) 0

-- as it was sent
unfoldable pub content_size : Data → ℕ
content_size d =
    option_map_or (λ content. content_number (codes "size") content - content_number (codes "compression") content)
    (member_of (codes "response") (codes "content") d) 0

-- a response to HEAD and a 304 have no body (RFC 9110, sections 9.3.2 and 15.4.5)
unfoldable pub body_size : Data → ℕ
body_size d =
    if (status_of d == 304) || option_map_or (λ m. bytes_eq m (codes "HEAD")) (method_of d) false then 0
    else unwrap_or (response_size (codes "bodySize") d) (content_size d)

-- Firefox includes the headers in the size of a body
unfoldable pub sent_by : Bool → Data → ℕ
sent_by is_firefox d =
    if not is_firefox then unwrap_or (response_size (codes "headersSize") d) 0 + body_size d
    else (if status_of d == 304 then unwrap_or (response_size (codes "headersSize") d) 0
    else unwrap_or (response_size (codes "bodySize") d) 0)

-- none if the browser or a service worker answered
unfoldable pub sent_of : Bool → Data → ℕ
sent_of is_firefox d =
    if is_some (browser_of d) || is_by_worker d then 0
    else unwrap_or (response_size (codes "_transferSize") d) (sent_by is_firefox d)

-- only in a recording that lists pages
unfoldable pub page_of : Bool → Data → Option (List ℕ)
page_of has_pages d = if has_pages then some_text_in (codes "pageref") d else None

-- all bytes but the printable ones of ASCII
abbrev pub unprintable : AsciiSet
unprintable = record { mask = 2 ^ 127 + (2 ^ 32 - 1) }

-- the text, in which bytes that can't be printed are percent-encoded
unfoldable pub shown_text : List ℕ → List ℕ
shown_text t = percent_encode unprintable t

unfoldable pub printed_of : Reader → Option (List ℕ) → Data → PrintedSeen
printed_of reader url d = record {
  method = option_map shown_text (method_of d);
  url = url;
  status = status_of d;
  browser = option_map shown_text (browser_of d);
  error = option_map shown_text (error_of d);
  sent = sent_of reader.is_firefox d;
  head = unwrap_or (response_size (codes "headersSize") d) 0;
  page = option_map shown_text (page_of reader.has_pages d);
}

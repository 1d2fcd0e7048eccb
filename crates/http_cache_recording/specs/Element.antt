-- What an element of the list of entries says.
use Rattle.std.specs.Prelude.{◌≡◌, ℕ, ◌==◌, ◌||◌, ◌&&◌, not, nat_lt, ℤ, Bool, true, false, List, ◌++◌, length, bytes_eq, codes, unwrap_or}
use Rattle.std.specs.Prelude.{is_some, is_none, Option, Some, option_map, if◌then◌else◌, MatchOption}
use Rattle.std.specs.List.{list_all}
use Rattle.std.specs.Int.{is_in_range}
use Rattle.std.specs.Option.{option_or, option_map_or}
use Rattle.http_header.specs.Token.{is_token_byte}
use Rattle.serde_json.specs.Data.{Data}
use Rattle.serde_json.specs.Find.{get}
use Rattle.http_cache_fields.specs.Headers.{Headers, contains_key}
use Rattle.http_cache_rules.specs.Messages.{ResponseSeen}
use Rattle.http_cache_json.specs.Form.{◌>>=◌, given}
use Rattle.http_cache_recording.specs.declared.element.Reader.{Reader}
use Rattle.http_cache_recording.specs.declared.entry.Kind.{Kind}
use Rattle.http_cache_recording.specs.declared.entry.Kind.TheVariants as kind
use Rattle.http_cache_recording.specs.Entry.{AnswerSeen, failed, cached, received, BodySeen, EntrySeen, RecordedSeen}
use Rattle.http_cache_recording.specs.Entry.{entry, skipped}
use Rattle.http_cache_recording.specs.Number.{whole}
use Rattle.http_cache_recording.specs.Moment.{moment_of_text, received_at}
use Rattle.http_cache_recording.specs.Target.{has_user, other_scheme, url_parts, target_text}
use Rattle.http_cache_recording.specs.Fields.{headers_in, without_no_cache}
use Rattle.http_cache_recording.specs.Printed.{member_of, text_in, some_text_in, request_text, status_of, browser_of, error_of, printed_of}
use Rattle.http_cache_recording.specs.Printed.{IsSkippedUrl, shown_text, is_by_worker}

-- ---- why it isn't audited

-- RFC 9110, section 5.6.2
abbrev pub is_token : List ℕ → Bool
is_token text = nat_lt 0 (length text) && list_all is_token_byte text

-- if it is a token (RFC 9110, section 9.1)
unfoldable pub method_in : Data → Option (List ℕ)
method_in d = request_text (codes "method") d >>= (λ m. given (is_token m) m)

-- why an element for http or https isn't audited, whatever its target
unfoldable pub other_reason : List ℕ → Data → Option (List ℕ)
other_reason method d =
    if bytes_eq method (codes "CONNECT") then Some (codes "connect")
    else (if status_of d == 101 then Some (codes "upgrade") else given (is_by_worker d) (codes "service worker"))

abbrev pub url_reason : List ℕ → Data → List ℕ → Option (List ℕ)
url_reason method d url =
    option_or (given (has_user url) (codes "no target"))
    (option_or (option_map (λ s. codes "scheme " ++ s) (other_scheme url))
    (option_or (given (is_none (url_parts url)) (codes "no target")) (other_reason method d)))

-- the first reason that applies, apart from its method and its time
unfoldable pub reason_of : List ℕ → Data → Option (List ℕ)
reason_of method d = option_map_or (url_reason method d) (request_text (codes "url") d) (Some (codes "no request"))

-- ---- what it says

unfoldable pub target_in : Data → Option (List ℕ)
target_in d = option_map target_text (request_text (codes "url") d >>= url_parts)

unfoldable pub started_of : Data → Option ℤ
started_of d = text_in (codes "startedDateTime") d >>= moment_of_text

-- without `no-cache` if that is ignored
unfoldable pub request_headers : Bool → Data → Headers
request_headers ignores d =
    let all = headers_in (member_of (codes "request") (codes "headers") d) in
    if ignores then without_no_cache all else all

abbrev pub response_of : Data → ResponseSeen
response_of d = record {
  status = status_of d;
  headers = headers_in (member_of (codes "response") (codes "headers") d);
}

-- there is an error, or no status
abbrev pub is_failed : Data → Bool
is_failed d = is_some (error_of d) || not (is_in_range 100 999 (status_of d))

unfoldable pub answer_of : Data → AnswerSeen
answer_of d =
    if is_failed d then failed
    else (if is_some (browser_of d) then cached (response_of d) else received (response_of d))

-- a 304 has none
unfoldable pub body_of : Data → Option BodySeen
body_of d = do
  content ← member_of (codes "response") (codes "content") d
  text ← some_text_in (codes "text") content
  given (not (status_of d == 304)) (record { text = text; encoding = some_text_in (codes "encoding") content })

-- ---- how it is counted

-- the browser made the redirection itself
abbrev pub is_internal : AnswerSeen → Bool
is_internal failed = false
is_internal (cached r) = contains_key r.headers (codes "non-authoritative-reason")
is_internal (received r) = contains_key r.headers (codes "non-authoritative-reason")

-- the request is a CORS preflight
abbrev pub is_preflight : Data → List ℕ → Headers → Bool
is_preflight d method h =
    bytes_eq method (codes "OPTIONS")
    && (contains_key h (codes "access-control-request-method")
    || option_map_or (λ t. bytes_eq t (codes "preflight")) (some_text_in (codes "_resourceType") d) false)

abbrev pub is_answered_by_store : List ℕ → Bool
is_answered_by_store method = bytes_eq method (codes "GET") || bytes_eq method (codes "HEAD")

-- the request asks for a range, or received one
abbrev pub is_range : Data → Headers → Bool
is_range d h = status_of d == 206 || contains_key h (codes "range")

abbrev pub has_failed : AnswerSeen → Bool
has_failed failed = true
has_failed (cached r) = false
has_failed (received r) = false

-- the first kind that applies
unfoldable pub kind_of : Data → List ℕ → Headers → AnswerSeen → Kind
kind_of d method h a =
    if is_internal a then kind.Internal
    else (if is_preflight d method h then kind.Preflight
    else (if not (is_answered_by_store method) then kind.Passed
    else (if is_range d h then kind.Range else (if has_failed a then kind.Failed else kind.Asked))))

-- ---- all of it

unfoldable pub entry_of : Bool → List ℕ → ℤ → Data → EntrySeen
entry_of ignores method started d = record {
  kind = kind_of d method (request_headers ignores d) (answer_of d);
  started = started;
  received = received_at started (unwrap_or (whole (get (codes "time") d)) 0);
  method = method;
  headers = request_headers ignores d;
  answer = answer_of d;
  body = body_of d;
}

abbrev pub IsSkipped : Reader → Data → List ℕ → RecordedSeen → Type 0
IsSkipped reader d reason r =
    (url : Option (List ℕ)) × IsSkippedUrl d url
    × (r ≡ record { printed = printed_of reader (option_map shown_text url) d; reading = skipped reason })

-- an element with a method may lack a target or a time
abbrev pub IsRecordedBy : Reader → Data → List ℕ → RecordedSeen → Type 0
IsRecordedBy reader d method r =
    MatchOption (reason_of method d)
    (MatchOption (started_of d) (IsSkipped reader d (codes "no moment") r)
    (λ started. r ≡ record {
      printed = printed_of reader (target_in d) d;
      reading = entry (entry_of reader.ignores_no_cache method started d);
    }))
    (λ reason. IsSkipped reader d reason r)

-- its entry, or the first reason why it isn't audited
abbrev pub IsRecorded : Reader → Data → RecordedSeen → Type 0
IsRecorded reader d r =
    MatchOption (method_in d) (IsSkipped reader d (codes "no request") r) (λ method. IsRecordedBy reader d method r)

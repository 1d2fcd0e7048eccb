-- The entries of a recording, as contracts see them.
use Rattle.std.specs.Prelude.{ℕ, ℤ, List, Option, option_map, String, string_bytes}
use Rattle.std.specs.declared.alloc.Global.{Global}
use Rattle.http_cache_fields.specs.Headers.{Headers, headers_of}
use Rattle.http_cache_rules.specs.Messages.{ResponseSeen, response_seen}
use Rattle.http_cache_recording.specs.declared.entry.Recorded.{Recorded}
use Rattle.http_cache_recording.specs.declared.entry.Printed.{Printed}
use Rattle.http_cache_recording.specs.declared.entry.Reading.{Reading}
use Rattle.http_cache_recording.specs.declared.entry.Reading.TheVariants as reading
use Rattle.http_cache_recording.specs.declared.entry.Entry.{Entry}
use Rattle.http_cache_recording.specs.declared.entry.Kind.{Kind}
use Rattle.http_cache_recording.specs.declared.entry.Answer.{Answer}
use Rattle.http_cache_recording.specs.declared.entry.Answer.TheVariants as answer
use Rattle.http_cache_recording.specs.declared.entry.Body.{Body}

abbrev pub text_seen : Option (String Global) → Option (List ℕ)
text_seen t = option_map string_bytes t

pub record PrintedSeen : Type 0 where
  pub method : Option (List ℕ)
  pub url : Option (List ℕ)
  pub status : ℕ
  pub browser : Option (List ℕ)
  pub error : Option (List ℕ)
  pub sent : ℕ
  pub head : ℕ
  pub page : Option (List ℕ)

abbrev pub printed_seen : Printed → PrintedSeen
printed_seen p = record {
  method = text_seen p.method;
  url = text_seen p.url;
  status = p.status;
  browser = text_seen p.browser;
  error = text_seen p.error;
  sent = p.sent;
  head = p.head;
  page = text_seen p.page;
}

-- no response, one from the browser's own cache, or one from the network
pub data AnswerSeen : Type 0 where
  failed : AnswerSeen
  cached : ResponseSeen → AnswerSeen
  received : ResponseSeen → AnswerSeen

abbrev pub answer_seen : Answer → AnswerSeen
answer_seen answer.Failed = failed
answer_seen (answer.Cached r) = cached (response_seen r)
answer_seen (answer.Received r) = received (response_seen r)

-- the text of a body, and its encoding
pub record BodySeen : Type 0 where
  pub text : List ℕ
  pub encoding : Option (List ℕ)

abbrev pub body_seen : Body → BodySeen
body_seen b = record { text = string_bytes b.text; encoding = text_seen b.encoding }

-- times are in nanoseconds since 1970
pub record EntrySeen : Type 0 where
  pub kind : Kind
  pub started : ℤ
  pub received : ℤ
  pub method : List ℕ
  pub headers : Headers
  pub answer : AnswerSeen
  pub body : Option BodySeen

abbrev pub entry_seen : Entry → EntrySeen
entry_seen e = record {
  kind = e.kind;
  started = e.started.nanosecond;
  received = e.received.nanosecond;
  method = e.method;
  headers = headers_of e.headers;
  answer = answer_seen e.answer;
  body = option_map body_seen e.body;
}

pub data ReadingSeen : Type 0 where
  entry : EntrySeen → ReadingSeen
  skipped : List ℕ → ReadingSeen

abbrev pub reading_seen : Reading → ReadingSeen
reading_seen (reading.Entry e) = entry (entry_seen e)
reading_seen (reading.Skipped reason) = skipped (string_bytes reason)

pub record RecordedSeen : Type 0 where
  pub printed : PrintedSeen
  pub reading : ReadingSeen

abbrev pub recorded_seen : Recorded → RecordedSeen
recorded_seen r = record { printed = printed_seen r.printed; reading = reading_seen r.reading }

-- A recording in which some urls follow their advice.
use Rattle.std.specs.Prelude.{ℕ, ◌&&◌, not, Bool, List, Option, option_map, codes, bytes_eq, string_bytes, if◌then◌else◌}
use Rattle.std.specs.List.{find}
use Rattle.std.specs.Option.{option_map_or}
use Rattle.std.specs.FinMap as fin
use Rattle.http_cache_fields.specs.Headers.{Headers}
use Rattle.http_cache_rules.specs.Messages.{ResponseSeen}
use Rattle.http_cache_recording.specs.Entry.{RecordedSeen, ReadingSeen, entry, skipped, AnswerSeen, failed, cached, received}
use Rattle.http_cache_recording.specs.Fields.{value_of_line}
use Rattle.http_cache_walk.specs.Order.{target_of}
use Rattle.http_cache_walk.specs.Assume.{put_value}
use Rattle.http_cache_findings.specs.declared.remedy.Remedy.{Remedy}
use Rattle.http_cache_findings.specs.declared.advice.Advice.{Advice}
use Rattle.http_cache_findings.specs.Advice.{control_of, is_same}

pub record RemedySeen : Type 0 where
  pub url : List ℕ
  pub advice : Advice

abbrev pub remedy_seen : Remedy → RemedySeen
remedy_seen r = record { url = string_bytes r.url; advice = r.pick.advice }

-- the text replaces the value of the name, if it is a valid value and there is room for it
abbrev pub put_text : Headers → List ℕ → List ℕ → Headers
put_text h name t = option_map_or (put_value h name) (value_of_line t) h

abbrev pub with_control : Advice → Headers → Headers
with_control a h =
    if is_same a.term then h else put_text (fin.remove h (codes "cache-control")) (codes "cache-control") (control_of a)

abbrev pub with_tag : Advice → Headers → Headers
with_tag a h = if a.adds_tag then put_text h (codes "etag") (codes "\"1\"") else h

abbrev pub remedied_headers : Advice → Headers → Headers
remedied_headers a h = with_tag a (with_control a h)

abbrev pub remedied_response : Advice → ResponseSeen → ResponseSeen
remedied_response a r = record { status = r.status; headers = remedied_headers a r.headers }

abbrev pub remedied_answer : Advice → AnswerSeen → AnswerSeen
remedied_answer a failed = failed
remedied_answer a (cached r) = cached (remedied_response a r)
remedied_answer a (received r) = received (remedied_response a r)

abbrev pub remedied_reading : Advice → ReadingSeen → ReadingSeen
remedied_reading a (entry e) = entry (record e { answer = remedied_answer a e.answer })
remedied_reading a (skipped reason) = skipped reason

-- the response of a reading, with other headers
abbrev pub with_headers : Headers → AnswerSeen → AnswerSeen
with_headers h failed = failed
with_headers h (cached r) = cached (record { status = r.status; headers = h })
with_headers h (received r) = received (record { status = r.status; headers = h })

abbrev pub is_for : List ℕ → RemedySeen → Bool
is_for url r = bytes_eq r.url url

abbrev pub advice_in : List RemedySeen → List ℕ → Option Advice
advice_in rs url = option_map (λ (r : RemedySeen). r.advice) (find (is_for url) rs)

abbrev pub remedied_by : RecordedSeen → Advice → RecordedSeen
remedied_by r a = record r { reading = remedied_reading a r.reading }

abbrev pub remedied : List RemedySeen → RecordedSeen → RecordedSeen
remedied rs r = option_map_or (remedied_by r) (advice_in rs (target_of r)) r

-- the server still answers a url's own validator in full: it did, and no advice changes that
abbrev pub is_still_in_full : List RemedySeen → List ℕ → Bool → Bool
is_still_in_full rs url in_full =
    option_map_or (λ (a : Advice). in_full && not a.answers_304) (advice_in rs url) in_full

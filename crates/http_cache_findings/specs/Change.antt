-- Changes of a header in recorded responses.
use Rattle.std.specs.Prelude.{◌≡◌, ℕ, nat_eq, ◌==◌, Bool, List, [], ◌∷◌, ◌++◌, length, drop, fold, codes, string_bytes}
use Rattle.std.specs.Prelude.{is_some, Option, Some, None, option_map, option_and_then, ⊤, ◌⊎◌, if◌then◌else◌}
use Rattle.std.specs.List.{starts_with, slice_split}
use Rattle.std.specs.Option.{option_map_or}
use Rattle.std.specs.Str.Pattern.{FindsText, SplitsAroundMatch}
use Rattle.std.specs.FinMap as fin
use Rattle.http_cache_fields.specs.Headers.{Headers}
use Rattle.http_cache_semantics.specs.Messages.{ResponseSeen}
use Rattle.http_cache_recording.specs.Entry.{RecordedSeen, ReadingSeen, entry, skipped, AnswerSeen, failed, cached, received}
use Rattle.http_cache_recording.specs.Fields.{field_name, value_of_line}
use Rattle.http_cache_recording.specs.Printed.{some_text}
use Rattle.http_cache_findings.specs.declared.change.Change.{Change}
use Rattle.http_cache_findings.specs.declared.change.ChangeError.{ChangeError}
use Rattle.http_cache_findings.specs.declared.change.ChangeError.TheVariants.{NoParts, NoName, NoValue, Memory}
use Rattle.http_cache_walk.specs.Assume.{put_value}
use Rattle.http_cache_walk.specs.Order.{target_of}

-- for responses whose url matches a pattern: another value, or none
pub record ChangeSeen : Type 0 where
  pub pattern : List ℕ
  pub name : List ℕ
  pub value : Option (List ℕ)

abbrev pub change_seen : Change → ChangeSeen
change_seen c = record {
  pattern = string_bytes c.pattern;
  name = c.name;
  value = option_map (λ v. v.bytes) c.value;
}

-- ---- matching urls

-- what follows the first occurrence of a piece
abbrev pub after_first : List ℕ → List ℕ → Option (List ℕ)
after_first piece [] = if starts_with nat_eq [] piece then Some (drop (length piece) []) else None
after_first piece (b ∷ text) =
    if starts_with nat_eq (b ∷ text) piece then Some (drop (length piece) (b ∷ text)) else after_first piece text

abbrev pub after : Option (List ℕ) → List ℕ → Option (List ℕ)
after left piece = option_and_then (after_first piece) left

-- no url contains a line feed
abbrev pub line_of : List ℕ → List ℕ
line_of text = codes "\n" ++ (text ++ codes "\n")

-- the line contains the pieces of a pattern between its `*`, in order
abbrev pub is_line_of : List ℕ → List ℕ → Bool
is_line_of pattern line = is_some (fold after (Some line) (slice_split (λ b. b == 42) pattern))

-- `*` stands for any text
abbrev pub is_of : List ℕ → List ℕ → Bool
is_of pattern url = is_line_of (line_of pattern) (line_of url)

-- ---- what changes

abbrev pub changed_headers : ChangeSeen → Headers → Headers
changed_headers c h =
    let others = fin.remove h c.name in option_map_or (put_value others c.name) c.value others

abbrev pub changed_response : ChangeSeen → ResponseSeen → ResponseSeen
changed_response c r = record { status = r.status; headers = changed_headers c r.headers }

abbrev pub changed_answer : ChangeSeen → AnswerSeen → AnswerSeen
changed_answer c failed = failed
changed_answer c (cached r) = cached (changed_response c r)
changed_answer c (received r) = received (changed_response c r)

abbrev pub changed_reading : ChangeSeen → ReadingSeen → ReadingSeen
changed_reading c (entry e) = entry (record e { answer = changed_answer c e.answer })
changed_reading c (skipped reason) = skipped reason

abbrev pub changed_by : RecordedSeen → ChangeSeen → RecordedSeen
changed_by r c =
    if is_of c.pattern (target_of r) then record r { reading = changed_reading c r.reading } else r

-- in order
abbrev pub changed : List ChangeSeen → RecordedSeen → RecordedSeen
changed cs r = fold changed_by r cs

-- ---- changes as text

-- before and after the first `: `
abbrev pub IsSplit : List ℕ → List ℕ → List ℕ → Type 0
IsSplit text front back = SplitsAroundMatch (FindsText (codes ": ")) text front back

abbrev pub IsWhole : List ℕ → Type 0
IsWhole text = FindsText (codes ": ") text None

-- pattern, name and value, with `: ` between them; an empty value removes the header
pub record IsChange (text : List ℕ) (c : ChangeSeen) : Type 0 where
  pub rest : List ℕ
  pub name : List ℕ
  pub value : List ℕ
  pub bytes : List ℕ
  pub front : IsSplit text c.pattern rest
  pub back : IsSplit rest name value
  pub is_name : field_name name ≡ Some c.name
  pub is_value : value_of_line value ≡ Some bytes
  pub unless_empty : c.value ≡ some_text bytes

-- the text has three parts, of which the last two are these
pub record HasParts (text name value : List ℕ) : Type 0 where
  pub pattern : List ℕ
  pub rest : List ℕ
  pub front : IsSplit text pattern rest
  pub back : IsSplit rest name value

-- the text has only a first part
pub record HasFront (text : List ℕ) : Type 0 where
  pub pattern : List ℕ
  pub rest : List ℕ
  pub front : IsSplit text pattern rest
  pub whole : IsWhole rest

abbrev pub IsNoChange : List ℕ → ChangeError → Type 0
IsNoChange text NoParts = IsWhole text ⊎ HasFront text
IsNoChange text NoName = (name : List ℕ) × (value : List ℕ) × HasParts text name value × (field_name name ≡ None)
IsNoChange text NoValue = (name : List ℕ) × (value : List ℕ) × HasParts text name value × (value_of_line value ≡ None)
IsNoChange text Memory = ⊤

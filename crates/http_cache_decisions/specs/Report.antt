-- An answer with the client's member of Cache-Status (RFC 9211, section 2).
use Rattle.std.specs.Prelude.{◌≡◌, ◌⊎◌, ◌&&◌, ℕ, nat_lt, List, [], ◌++◌, length, codes, if◌then◌else◌}
use Rattle.std.specs.List.{flat_map}
use Rattle.http.specs.declared.response.Parts.{Parts}
use Rattle.http_cache_fields.specs.Headers.{Headers, headers_of, set, values, RefusesName}
use Rattle.http_cache_fields.specs.Text.{is_text}
use Rattle.http_cache_reasons.specs.Member.{MemberSeen, member_text}

-- the members on a line of Cache-Status, and a comma; a line that is empty or isn't text has none
abbrev pub earlier_member : List ℕ → List ℕ
earlier_member line = if is_text line && nat_lt 0 (length line) then line ++ codes ", " else []

-- the members of earlier caches
abbrev pub earlier_members : List (List ℕ) → List ℕ
earlier_members lines = flat_map earlier_member lines

-- all members on one line, the client's last
abbrev pub cache_status : Headers → MemberSeen → List ℕ
cache_status h member = earlier_members (values h (codes "cache-status")) ++ member_text member

-- Cache-Status is this text alone; full headers that have none stay as they are
abbrev pub IsMarkedBy : Headers → List ℕ → Headers → Type 0
IsMarkedBy old text new =
    (new ≡ set old (codes "cache-status") text)
    ⊎ (RefusesName old (codes "cache-status") × (new ≡ old))

-- the head with a text as Cache-Status
pub record IsMarkedAs (text : List ℕ) (head marked : Parts) : Type 0 where
  pub status : marked.status ≡ head.status
  pub version : marked.version ≡ head.version
  pub fields : IsMarkedBy (headers_of head.headers) text (headers_of marked.headers)

-- the head with a member of the client in Cache-Status
abbrev pub IsReported : MemberSeen → Parts → Parts → Type 0
IsReported member head marked = IsMarkedAs (cache_status (headers_of head.headers) member) head marked

-- the head with another Cache-Status
pub record IsMarked (head marked : Parts) : Type 0 where
  pub status : marked.status ≡ head.status
  pub version : marked.version ≡ head.version
  pub text : List ℕ
  pub fields : IsMarkedBy (headers_of head.headers) text (headers_of marked.headers)

-- What is written for the bytes of a recording or of heads, and why nothing is.
use Rattle.std.specs.Prelude.{◌≡◌, ◌<◌, ◌+◌, ℕ, ℤ, List, [], ◌∷◌, Bool, true, false, length, take, ⊤, Option, option_map, IfSome}
use Rattle.std.specs.List.{list_any}
use Rattle.http_cache_recording.specs.Entry.{RecordedSeen, ReadingSeen, entry, skipped}
use Rattle.http_cache_recording.specs.Heads.{is_heads, IsHeads}
use Rattle.http_cache_recording.specs.Heads as heads
use Rattle.http_cache_recording.specs.Recording.{IsRecording, IsCause}
use Rattle.http_cache_walk.specs.Settings.{SettingsSeen}
use Rattle.http_cache_findings.specs.Change.{ChangeSeen}
use Rattle.http_cache_findings.specs.Findings.{AreFindings}
use Rattle.http_cache_findings.specs.declared.findings.Findings.{Findings}
use Rattle.http_cache_show.specs.declared.error.AuditError.{AuditError}
use Rattle.http_cache_show.specs.declared.error.AuditError.TheVariants.{NotReadable, TooLong, Recording, Heads, Memory, NotWritten}
use Rattle.http_cache_show.specs.declared.run.Ended.{Ended}
use Rattle.http_cache_show.specs.declared.run.Form.{Form}
use Rattle.http_cache_show.specs.declared.run.Form.TheVariants.{Report, Html, Object, Lines, JsonLines, ByUrl}
use Rattle.http_cache_show.specs.declared.run.Hits.{Hits}
use Rattle.http_cache_show.specs.Printable.{IsPlain}
use Rattle.http_cache_show.specs.Tags.{is_between_tags}

-- the greatest length of a recording in bytes
abbrev pub longest_recording : ℕ
longest_recording = 1_073_741_824

-- what is read of a reader: one byte more than the longest recording
abbrev pub front_of : Option (List ℕ) → Option (List ℕ)
front_of known = option_map (take (longest_recording + 1)) known

abbrev pub is_audited : ReadingSeen → Bool
is_audited (entry e) = true
is_audited (skipped reason) = false

abbrev pub any_audited : List RecordedSeen → Bool
any_audited rs = list_any (λ (r : RecordedSeen). is_audited r.reading) rs

abbrev pub hits_of : Findings → Hits
hits_of x = record { fresh = x.repeated.fresh; repeated = x.repeated.requests }

-- the hits are two of the sums that are found
abbrev pub AreHits : SettingsSeen → List RecordedSeen → Hits → Type 0
AreHits s rs hits = (x : Findings) × AreFindings s rs x × (hits ≡ hits_of x)

-- of a report each byte is printable or a line feed; a page ends between its tags
abbrev pub IsOfForm : Form → Bool → SettingsSeen → List RecordedSeen → Hits → List ℕ → Type 0
IsOfForm Report true s rs hits text = IsPlain text
IsOfForm Report false s rs hits text = AreHits s rs hits × IsPlain text
IsOfForm Html are_heads s rs hits text = AreHits s rs hits × is_between_tags text
IsOfForm Object are_heads s rs hits text = AreHits s rs hits
IsOfForm Lines are_heads s rs hits text = IsPlain text
IsOfForm JsonLines are_heads s rs hits text = ⊤
IsOfForm ByUrl are_heads s rs hits text = ⊤

-- the text is about a recording, or about what changes save
abbrev pub IsPrinted : Form → Bool → SettingsSeen → List ChangeSeen → List RecordedSeen → Hits → List ℕ → Type 0
IsPrinted form are_heads s [] rs hits text = IsOfForm form are_heads s rs hits text
IsPrinted form are_heads s (c ∷ cs) rs hits text = ⊤

-- the bytes are heads of responses, or a recording
abbrev pub IsReadAs : Bool → ℤ → Bool → List ℕ → List RecordedSeen → Type 0
IsReadAs true now ignores_no_cache bytes rs = IsHeads now bytes rs
IsReadAs false now ignores_no_cache bytes rs = IsRecording ignores_no_cache bytes rs

-- the bytes are heads of responses if they begin like one, and else a recording
pub record IsInput (now : ℤ) (ignores_no_cache : Bool) (bytes : List ℕ) (are_heads : Bool) (rs : List RecordedSeen)
    : Type 0 where
  pub begins : are_heads ≡ is_heads bytes
  pub is_read : IsReadAs are_heads now ignores_no_cache bytes rs

-- the text is about the heads or the recording in the bytes, and says whether an entry was audited
pub record IsAudited (form : Form) (now : ℤ) (s : SettingsSeen) (cs : List ChangeSeen) (ignores_no_cache : Bool)
    (bytes : List ℕ) (ended : Ended) (text : List ℕ) : Type 0 where
  pub recorded : List RecordedSeen
  pub are_heads : Bool
  pub is_input : IsInput now ignores_no_cache bytes are_heads recorded
  pub is_printed : IsPrinted form are_heads s cs recorded ended.hits text
  pub any : ended.audited ≡ any_audited recorded

-- what an error says of the bytes left in a reader, if they are known
abbrev pub IsRefusal : Option (List ℕ) → AuditError → Type 0
IsRefusal known NotReadable = ⊤
IsRefusal known TooLong = IfSome known (λ bytes. longest_recording < length bytes)
IsRefusal known (Recording cause) = IfSome known (λ bytes. (is_heads bytes ≡ false) × IsCause bytes cause)
IsRefusal known (Heads cause) = IfSome known (λ bytes. (is_heads bytes ≡ true) × heads.IsCause bytes cause)
IsRefusal known Memory = ⊤
IsRefusal known NotWritten = ⊤

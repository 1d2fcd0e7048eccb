-- The output of a script, and when there is none.
use Rattle.std.specs.Prelude.{◌≡◌, ◌<◌, ℕ, List, Option, ◌++◌, length, map, take}
use Rattle.std.specs.Io.KnownBytes.{Appends}
use Rattle.http_cache_policy.specs.Exchange.{Exchange}
use Rattle.http_cache_policy.specs.Steps.{StepSeen, outcome_seen}
use Rattle.http_cache_policy.specs.Run.{IsRun}
use Rattle.http_cache_policy.specs.RunStops.{StopsFor}
use Rattle.http_cache_policy.specs.declared.steps.Outcome.{Outcome}
use Rattle.cache_script.specs.Script.{ScriptSeen, start_of, IsScript}
use Rattle.cache_script.specs.Lines.{first_line}
use Rattle.cache_script.specs.Lines.{AreLines}

pub record AreStepLines (e : Exchange) (steps : List StepSeen) (text : List ℕ) : Type 0 where
  pub outcomes : List Outcome
  pub last : Exchange
  pub run : IsRun e steps outcomes last
  pub lines : AreLines (map outcome_seen outcomes) text

-- the first line, and then the lines of the steps
pub record IsOutput (s : ScriptSeen) (text : List ℕ) : Type 0 where
  pub rest : List ℕ
  pub lines : AreStepLines (start_of s) s.steps rest
  pub whole : text ≡ first_line (start_of s) s.received ++ rest

pub record IsOnlyOutput (s : ScriptSeen) (text : List ℕ) : Type 0 where
  pub output : IsOutput s text
  pub alone : (other : List ℕ) → IsOutput s other → other ≡ text

-- the bytes are a script, and P holds of each script that they are
pub record IsScriptThat (P : ScriptSeen → Type 0) (bytes : List ℕ) : Type 0 where
  pub script : ScriptSeen
  pub is_script : IsScript bytes script
  pub holds : (s : ScriptSeen) → IsScript bytes s → P s

abbrev pub IsAnswered : List ℕ → List ℕ → Type 0
IsAnswered bytes text = IsScriptThat (λ s. IsOnlyOutput s text) bytes

abbrev pub IsRefusedScript : (Exchange → StepSeen → Type 0) → List ℕ → Type 0
IsRefusedScript Cause = IsScriptThat (λ s. StopsFor Cause (start_of s) s.steps)

-- between before and after, a beginning of the text was written, but not all of it
pub record IsBegun (before after : Option (List ℕ)) (text : List ℕ) : Type 0 where
  pub count : ℕ
  pub short : count < length text
  pub went : Appends before after (take count text)

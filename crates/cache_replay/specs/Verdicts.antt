-- The verdict on a line of the input, and how it is counted.
use Rattle.std.specs.Prelude.{◌≡◌, ℕ, ⊤, List, [], None, IsSome, IfSome, IsSomeAnd, codes}
use Rattle.std.specs.List.{AllZip, sum_by}
use Rattle.std.specs.Str.{IsUtf8}
use Rattle.serde_json.specs.Data.{Data}
use Rattle.serde_json.specs.Read.{read as read_text}
use Rattle.serde_json.specs.Find.{get}
use Rattle.cache_replay.specs.declared.run.Tally.{Tally}
use Rattle.cache_replay.specs.declared.run.LineVerdict.{LineVerdict}
use Rattle.cache_replay.specs.declared.run.LineVerdict.TheVariants.{Agrees, Differs, Unreadable, Answered}
use Rattle.cache_replay.specs.Compare.{recorded_answer_of, AreLinesOf}
use Rattle.cache_replay.specs.Lines.{AreFirstLines}

abbrev pub IsComparison : List Data → List ℕ → LineVerdict → Type 0
IsComparison recorded text Agrees = AreLinesOf recorded text
IsComparison recorded text Differs = ¬ (AreLinesOf recorded text)
IsComparison recorded text Unreadable = ⊥
IsComparison recorded text Answered = ⊥

-- by the text of the full answer to the script in the value
abbrev pub IsVerdictOn : Data → List ℕ → LineVerdict → Type 0
IsVerdictOn d text Agrees = IsSomeAnd (recorded_answer_of d) (λ r. IsComparison r.lines text Agrees)
IsVerdictOn d text Differs = IsSomeAnd (recorded_answer_of d) (λ r. IsComparison r.lines text Differs)
IsVerdictOn d text Unreadable = IsSome (get (codes "answer") d) × (recorded_answer_of d ≡ None)
IsVerdictOn d text Answered = get (codes "answer") d ≡ None

-- any line may have the verdict of a replay that ran out of memory
abbrev pub IsLineVerdict : List ℕ → List ℕ → LineVerdict → Type 0
IsLineVerdict line text Agrees = IsSomeAnd (read_text line) (λ d. IsVerdictOn d text Agrees)
IsLineVerdict line text Differs = IsSomeAnd (read_text line) (λ d. IsVerdictOn d text Differs)
IsLineVerdict line text Unreadable = ⊤
IsLineVerdict line text Answered =
    IsUtf8 line → IfSome (read_text line) (λ d. IsVerdictOn d text Answered)

abbrev pub HasVerdict : List ℕ → LineVerdict → Type 0
HasVerdict line verdict = (text : List ℕ) × IsLineVerdict line text verdict

abbrev pub agreeing : LineVerdict → ℕ
agreeing Agrees = 1
agreeing Differs = 0
agreeing Unreadable = 0
agreeing Answered = 0

abbrev pub differing : LineVerdict → ℕ
differing Agrees = 0
differing Differs = 1
differing Unreadable = 1
differing Answered = 0

-- the first lines of an input have verdicts, which the tally counts, and `rest` follows them
pub record IsTallyTo (bytes rest : List ℕ) (tally : Tally) : Type 0 where
  pub lines : List (List ℕ)
  pub read : AreFirstLines bytes lines rest
  pub verdicts : List LineVerdict
  pub each : AllZip HasVerdict lines verdicts
  pub agree : tally.agree ≡ sum_by agreeing verdicts
  pub differ : tally.differ ≡ sum_by differing verdicts

abbrev pub IsTallyOf : List ℕ → Tally → Type 0
IsTallyOf bytes tally = IsTallyTo bytes [] tally

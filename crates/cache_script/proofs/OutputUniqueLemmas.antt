-- A script has at most one output.
use Rattle.std.proofs.Common.{◌≡◌, ℕ, ◌++◌, List, Option, Some, None, IsSomeAnd, map, sym, ap, ◌∙◌, subst}
use Rattle.std.specs.List.{concat}
use Rattle.http_cache_policy.specs.Headers.{first_text}
use Rattle.http_cache_policy.specs.Exchange.{Exchange}
use Rattle.http_cache_policy.specs.Steps.{StepSeen, OutcomeSeen, uses, sends, renews, replaces, restarted, outcome_seen}
use Rattle.http_cache_policy.proofs.RunLemmas.{run-unique}
use Rattle.http_cache_json.proofs.ZipLemmas.{zip_same}
use Rattle.cache_script.specs.Script.{ScriptSeen, start_of}
use Rattle.cache_script.specs.Lines.{first_line, age_line}
use Rattle.cache_script.specs.Lines.{IsLine, AreLines}
use Rattle.cache_script.specs.Output.{AreStepLines, IsOutput}

age_line-unique : (age : Option (List ℕ)) (x y : List ℕ)
    → IsSomeAnd age (λ text. x ≡ age_line text) → IsSomeAnd age (λ text. y ≡ age_line text) → x ≡ y
age_line-unique None x y h k = absurd h
age_line-unique (Some text) x y h k = h ∙ sym k

IsLine-unique : (o : OutcomeSeen) (x y : List ℕ) → IsLine o x → IsLine o y → x ≡ y
IsLine-unique (uses response) x y h k = age_line-unique (first_text response.headers _) x y h k
IsLine-unique (sends request matches) x y h k = h ∙ sym k
IsLine-unique (renews response) x y h k = h ∙ sym k
IsLine-unique (replaces response) x y h k = h ∙ sym k
IsLine-unique restarted x y h k = h ∙ sym k

AreLines-unique : (os : List OutcomeSeen) (x y : List ℕ) → AreLines os x → AreLines os y → x ≡ y
AreLines-unique os x y h k =
    h.joined ∙ ap concat (zip_same IsLine IsLine-unique os h.lines k.lines h.each k.each) ∙ sym k.joined

AreStepLines-unique : (e : Exchange) (steps : List StepSeen) (x y : List ℕ)
    → AreStepLines e steps x → AreStepLines e steps y → x ≡ y
AreStepLines-unique e steps x y h k =
    let same = (run-unique e steps h.outcomes k.outcomes h.last k.last h.run k.run).0 in
    AreLines-unique (map outcome_seen k.outcomes) x y
    (subst (λ (os : List OutcomeSeen). AreLines os x) same h.lines) k.lines

pub IsOutput-unique : (s : ScriptSeen) (t u : List ℕ) → IsOutput s t → IsOutput s u → t ≡ u
IsOutput-unique s t u h k =
    let rest = AreStepLines-unique (start_of s) s.steps h.rest k.rest h.lines k.lines in
    h.whole ∙ ap (λ lines. first_line (start_of s) s.received ++ lines) rest ∙ sym k.whole

-- The lines of outcomes, one more at a time.
use Rattle.std.proofs.Common.{◌≡◌, ℕ, suc, zero, ◌+◌, ◌<◌, List, [], ◌∷◌, ◌++◌, map, take, length}
use Rattle.std.proofs.Common.{get_or, append_assoc, refl, sym, ap, ◌∙◌, subst, arith}
use Rattle.std.specs.List.{AllByRecursion, AllZip, concat}
use Rattle.std.proofs.lemmas.List.{append-nil}
use Rattle.std.proofs.lemmas.List.Folds.{concat-append}
use Rattle.http_cache_policy.specs.Exchange.{Exchange}
use Rattle.http_cache_policy.specs.Steps.{StepSeen, OutcomeSeen, outcome_seen}
use Rattle.http_cache_policy.specs.Run.{IsRun}
use Rattle.http_cache_policy.specs.declared.steps.Outcome.{Outcome}
use Rattle.http_cache_json.proofs.ZipLemmas.{zip_push, up_to_next}
use Rattle.cache_script.specs.Script.{ScriptSeen, start_of}
use Rattle.cache_script.specs.Lines.{first_line, IsLine, HasAge, HasLineAfter, AreLinesAfter}
use Rattle.cache_script.specs.Output.{IsOutput}

pub age_at_index : (os : List Outcome) (i : ℕ) (o : Outcome) → i < length os → o ≡ get_or os i o
    → AllByRecursion HasAge (map outcome_seen os) → HasAge (outcome_seen o)
age_at_index [] i o h e all = absurd (omega arith)
age_at_index (p ∷ os) zero o h e all = subst (λ (q : Outcome). HasAge (outcome_seen q)) (sym e) all.0
age_at_index (p ∷ os) (suc i) o h e all = age_at_index os i o (omega arith) e all.1

-- the next outcome's line is added after those before it
pub one_more : (os : List Outcome) (i : ℕ) (o : Outcome) (before text after : List ℕ) → i < length os
    → o ≡ get_or os i o → AreLinesAfter (map outcome_seen (take i os)) before text
    → HasLineAfter (outcome_seen o) text after
    → AreLinesAfter (map outcome_seen (take (i + 1) os)) before after
one_more os i o before text after lt is so_far one =
    let lines = so_far.lines.lines in
    record {
      rest = so_far.rest ++ one.line;
      lines = record {
        lines = lines ++ one.line ∷ [];
        each =
            subst (λ (seen : List OutcomeSeen). AllZip IsLine seen (lines ++ one.line ∷ []))
            (sym (up_to_next outcome_seen os i o lt is))
            (zip_push IsLine (map outcome_seen (take i os)) lines (outcome_seen o) one.line
            so_far.lines.each one.is_line);
        joined =
            ap (λ t. t ++ one.line) so_far.lines.joined
            ∙ ap (λ l. concat lines ++ l) (sym (append-nil one.line))
            ∙ sym (concat-append lines (one.line ∷ []));
      };
      behind =
          one.behind
          ∙ ap (λ t. t ++ one.line) so_far.behind
          ∙ append_assoc before so_far.rest one.line;
    }

-- the first line, and the lines of a run, are the script's output
pub output_of : (s : ScriptSeen) (e : Exchange) (steps : List StepSeen) (os : List Outcome) (last : Exchange)
    (text : List ℕ) → e ≡ start_of s → steps ≡ s.steps → IsRun e steps os last
    → AreLinesAfter (map outcome_seen os) (first_line e s.received) text → IsOutput s text
output_of s e steps os last text from same run behind = record {
  rest = behind.rest;
  lines = record {
    outcomes = os;
    last = last;
    run =
        subst (λ (x : Exchange). IsRun x s.steps os last) from
        (subst (λ (xs : List StepSeen). IsRun e xs os last) same run);
    lines = behind.lines;
  };
  whole = behind.behind ∙ ap (λ (x : Exchange). first_line x s.received ++ behind.rest) from;
}

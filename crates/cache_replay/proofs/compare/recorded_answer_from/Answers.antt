-- A recorded answer is an object of two members with a list of texts, and nothing else is.
use Rattle.std.proofs.Common.{rules, true, false, refl, sym}
use Rattle.serde_json.specs.View.{view}
use Rattle.cache_replay.proofs.CompareLemmas.{recorded_by}
use Rattle.cache_replay.proofs.compare.recorded_answer_from.Goals as goal
use Rattle.cache_replay.proofs.compare.recorded_answer_from.Goals.{
  else-has_members-via-then-has_members+else-are_texts,
  else-has_members-via-else-has_members,
}

pub returns-then-are_texts : goal.returns-then-are_texts
returns-then-are_texts c =
    let value = view c.args.value.now in
    let script = view c.in_ok-script.script.now in
    let answer = view c.in_ok-get.field-0.now in
    sym (recorded_by value script answer c.as_slice-lines.result.now true true
    (search rules) (search rules) (search rules) (search rules) (search rules))

pub returns-else-has_members : goal.returns-else-has_members
returns-else-has_members c =
    let value = view c.args.value.now in
    let script = view c.in_ok-script.script.now in
    let answer = view c.in_ok-get.field-0.now in
    let lines = c.as_slice-lines.result.now in
    elim c.else-has_members.branch [
      | else-has_members-via-then-has_members+else-are_texts w ↦
          sym (recorded_by value script answer lines true false
          (search rules) (search rules) (search rules) (search rules) (search rules))
      | else-has_members-via-else-has_members w ↦
          sym (recorded_by value script answer lines false _
          (search rules) (search rules) (search rules) (search rules) refl)
    ]

-- A text that the reader of JSON refuses is no JSON.
use Rattle.std.proofs.Common.{◌≡◌, ℕ, List, length, sym, ap, ◌∙◌, subst, arith}
use Rattle.std.specs.Str.{IsUtf8}
use Rattle.std.proofs.lemmas.Bool.{both_ways}
use Rattle.std.proofs.lemmas.List.{take_at}
use Rattle.std.proofs.lemmas.Option.{none-some}
use Rattle.serde_json.specs.Read.{read as read_text}
use Rattle.http_cache_recording.specs.Mend.{mended, without_mark, text_of}
use Rattle.http_cache_recording.proofs.recording.value_of.Goals as goal

pub returns-clause-cause : goal.returns-clause-cause
returns-clause-cause c =
    let old = c.as_mut_slice.ensures.value in
    let long : length c.mend.new.text ≡ c.args.bytes.len = omega (arith, ap (λ (t : List ℕ). length t) old) in
    let text : c.without_mark-text.result.now ≡ text_of c.args.bytes.items =
    c.without_mark-text.ensures
    ∙ ap without_mark
    (c.as_slice.ensures.value ∙ take_at c.mend.new.text _ c.args.bytes.len long ∙ c.mend.ensures ∙ ap mended old) in
    c.in_ok-fault_of-in-Err.ensures c.args.bytes.items (sym text)
    (λ d json.
    let none = c.in-Err.ensures.err (λ memory. both_ways _ c.if-is_memory.false (c.is_memory.ensures.1 memory))
    (subst IsUtf8 (sym text) json.utf8) in
    none-some d (sym none ∙ ap read_text text ∙ json.value))

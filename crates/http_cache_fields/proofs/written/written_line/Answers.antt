-- The line is text, and it reads back as the same directives.
use Rattle.std.proofs.Common.{◌≡◌, ◌++◌, ◌<◌, [], ◌∷◌, length, arith, sym, ap, ◌∙◌, take, string_bytes}
use Rattle.std.specs.Option.{option_map, option_copied}
use Rattle.std.proofs.lemmas.List.{append-nil}
use Rattle.std.proofs.Math.Seq.{take-length}
use Rattle.http_cache_fields.specs.Shown.{shown_entry}
use Rattle.http_cache_fields.specs.Written.{written_rest, written_line}
use Rattle.http_cache_fields.specs.Text.{is_text}
use Rattle.http_cache_fields.specs.Directives.{directives}
use Rattle.http_cache_fields.specs.Pieces.{pieces}
use Rattle.http_cache_fields.proofs.ReadableLemmas.{directives-written_line, visible-written_line}
use Rattle.http_cache_fields.proofs.WriteLemmas.{separator, separator-some, separator-none, written_line-step}
use Rattle.http_cache_fields.proofs.written.written_line.Goals as goal
use Rattle.http_cache_fields.proofs.written.written_line.Goals.{then-i-gt0+in_ok-push_str, else-i-gt0}

pub loop-i-preserved : goal.loop-i-preserved
loop-i-preserved c =
    let ds = c.args.control.now in
    let i = c.loop-i.i in
    let at = ap (option_map shown_entry) (sym c.unwrap.ensures) ∙ c.entry_at.ensures in
    let inside : i < length ds = omega arith in
    let before = string_bytes c.loop-i.line in
    let mid : string_bytes c.if-i-gt0.line ≡ before ++ separator (take i ds) =
    elim c.if-i-gt0.branch [
      | then-i-gt0+in_ok-push_str w ↦ ap string_bytes w.line-is ∙ w.in_ok-push_str.ensures.bytes
          ∙ ap (λ s. before ++ s) (sym (separator-some ds i w.if-i-gt0.true inside))
      | else-i-gt0 w ↦ ap string_bytes w.line-is ∙ sym (append-nil before)
          ∙ ap (λ s. before ++ s) (sym (separator-none ds i w.if-i-gt0.false))
    ] in
    written_line-step ds i _ before _ _ at inside c.loop-i.invariant mid
    (c.in_ok-push_value.ensures
    ∙ ap (λ l. l ++ written_rest (option_copied c.unwrap.result.1)) c.in_ok-push_str-2.ensures.bytes)

pub returns-clause-reads_back : goal.returns-clause-reads_back
returns-clause-reads_back c =
    let ds = c.args.control.now in
    let end : c.loop-i.i ≡ length ds = omega arith in
    let whole = c.loop-i.invariant ∙ ap (λ k. written_line (take k ds)) end
    ∙ ap written_line (take-length ds) in
    ap (λ l. directives (pieces (l ∷ []))) whole ∙ directives-written_line ds c.len-i-end.ensures.valid

pub returns-clause-text : goal.returns-clause-text
returns-clause-text c =
    let ds = c.args.control.now in
    let end : c.loop-i.i ≡ length ds = omega arith in
    let whole = c.loop-i.invariant ∙ ap (λ k. written_line (take k ds)) end
    ∙ ap written_line (take-length ds) in
    ap is_text whole ∙ visible-written_line ds c.len-i-end.ensures.valid.each

-- If all is written, the reader's bytes are a script, and the writer has its only output.
use Rattle.std.proofs.Common.{List, ℕ, string_bytes, refl, subst}
use Rattle.std.specs.Io.KnownBytes.{Appends}
use Rattle.cache_script.specs.Output.{IsAnswered}
use Rattle.cache_script.proofs.AnswerLemmas.{of_all}
use Rattle.cache_script.proofs.run.run.Goals as goal

pub returns-then-write_out-clause-done : goal.returns-then-write_out-clause-done
returns-then-write_out-clause-done g c =
    let before = g.W.Write.contents c.args.writer.now in
    let after = g.W.Write.contents c.write_out.new.writer in
    let text = string_bytes c.in_ok-text.text in
    let went : Appends before after text =
    subst (Appends before after) c.as_bytes.ensures.value (c.if-write_out.ensures.ok refl) in
    of_all (g.R.Read.remaining c.args.reader.now) c.in-Ok.bytes.items
    (λ bytes. (text : List ℕ) × IsAnswered bytes text × Appends before after text)
    c.in-Ok.ensures.all (
      text,
      subst (λ (bytes : List ℕ). IsAnswered bytes text) c.as_slice.ensures.value c.in_ok-text.ensures.found,
      went,
    )

-- The text gets the line of the answer and its status.
use Rattle.std.proofs.Common.{◌∙◌, ◌++◌, ap, string_bytes}
use Rattle.std.proofs.lemmas.Result.{on_ok_weaker}
use Rattle.cache_script.proofs.LineLemmas.{not_modified_line, modified_line}
use Rattle.cache_script.proofs.lines.push_updated_line.Goals as goal

pub returns-then-not_modified : goal.returns-then-not_modified
returns-then-not_modified c =
    let line =
    not_modified_line c.args.not_modified c.as_u16-status.result c.args.status
    c.if-not_modified.true c.as_u16-status.ensures.value in
    on_ok_weaker c.writeln.result (λ h. h ∙ ap (λ l. string_bytes c.args.text.now ++ l) line)
    c.writeln.ensures.bytes

pub returns-else-not_modified : goal.returns-else-not_modified
returns-else-not_modified c =
    let line =
    modified_line c.args.not_modified c.as_u16-status.result c.args.status
    c.if-not_modified.false c.as_u16-status.ensures.value in
    on_ok_weaker c.writeln-else-not_modified.result (λ h. h ∙ ap (λ l. string_bytes c.args.text.now ++ l) line)
    c.writeln-else-not_modified.ensures.bytes

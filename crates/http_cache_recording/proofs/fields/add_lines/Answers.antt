-- Each turn adds a line, so all lines of the text are added.
use Rattle.std.proofs.Common.{Bor, List, ℕ, map, fold, sym, ap, ◌∙◌, lit<}
use Rattle.std.proofs.lemmas.List.{map_push}
use Rattle.std.proofs.lemmas.List.Sums.{fold_push}
use Rattle.std.proofs.lemmas.Iterator.Consumers.{YieldsList-end}
use Rattle.std.proofs.lemmas.Iterator.Splits.{YieldsList-from_str_split}
use Rattle.http_cache_fields.specs.Headers.{headers_of}
use Rattle.http_cache_recording.specs.Fields.{with_line, with_lines}
use Rattle.http_cache_recording.proofs.fields.add_lines.Goals as goal

pub loop-line-preserved : goal.loop-line-preserved
loop-line-preserved c =
    let add = with_line c.args.name.now in
    let start = headers_of c.args.headers.now in
    let now = λ (y : Bor (List ℕ)). y.now in
    c.in_ok-add_line.ensures ∙ ap (λ h. add h c.in-Some.line.now) c.loop-line.invariant
    ∙ sym (ap (fold add start) (map_push now c.loop-line.yielded c.in-Some.line)
    ∙ fold_push add start (map now c.loop-line.yielded) c.in-Some.line.now)

pub returns : goal.returns
unfolding with_lines
returns c =
    let seen = YieldsList-end (YieldsList-from_str_split 10 c.args.text.now (lit< tt) (cc) (cc) (cc))
    c.loop-line.yielded _ c.loop-line.yielded_by _ _ c.in-None.is c.next.ensures.steps in
    c.loop-line.invariant ∙ ap (fold (with_line c.args.name.now) (headers_of c.args.headers.now)) seen.0

-- The line ahead and what follows it are taken.
use Rattle.std.proofs.Common.{arith, ◌≡◌, ◌∙◌, ap, subst, drop, length}
use Rattle.std.proofs.lemmas.Bool.Decides.{nat_tests}
use Rattle.std.proofs.lemmas.Result.{IfOk-weaker}
use Rattle.http_cache_frames.specs.Front.{IsLine}
use Rattle.http_cache_frames.specs.Served.{IsAhead, TakesContent}
use Rattle.http_cache_frames.proofs.LineEndLemmas.{line_there}
use Rattle.http_cache_frames.proofs.ServedLemmas.{all_taken, frame_taken}
use Rattle.http_cache_frames.proofs.input.Input.next.Goals as goal

pub returns-in-Line-clause-taken : goal.returns-in-Line-clause-taken
returns-in-Line-clause-taken g c =
    let a = c.in-Line.announced in
    let ahead = c.line.new.self.ahead.items in
    let left = g.R.Read.remaining c.line.new.self.from in
    let line : IsLine ahead a = subst (λ it. IsAhead it ahead) c.in-Line.is c.in_ok-announced.ensures.ahead in
    let there = line_there ahead a line in
    let len = c.len.ensures.value in
    let min = c.min-line.ensures in
    let count : c.min-line.result ≡ a.length = omega (arith, there, len, min) in
    let rest : c.advance.new.self.items ≡ drop a.length ahead = c.advance.ensures.items ∙ ap (λ n. drop n ahead) count in
    let left_then = g.R.Read.remaining c.after_line.new.self.from in
    let ahead_then = c.after_line.new.self.ahead.items in
    IfOk-weaker c.after_line.result _ _
    (λ it taken. frame_taken it a (g.R.Read.remaining c.args.self.now.from) c.args.self.now.ahead.items left ahead left_then ahead_then
    c.in_ok-announced.ensures.taken line
    (subst (λ it_ahead. TakesContent it a left it_ahead left_then ahead_then) rest taken))
    c.after_line.ensures.taken

pub returns-in-Line-clause-end : goal.returns-in-Line-clause-end
returns-in-Line-clause-end g c =
    IfOk-weaker c.after_line.result _ _ (λ it begun is. absurd (begun is)) c.after_line.ensures.begun

pub returns-in-Partial-clause-end : goal.returns-in-Partial-clause-end
returns-in-Partial-clause-end g c = λ _ base taken has.
    let empty : length c.line.new.self.ahead.items ≡ 0 = grind (arith, nat_tests) in
    all_taken base (g.R.Read.remaining c.line.new.self.from) c.line.new.self.ahead.items taken
    (c.in_ok-announced.ensures.taken base taken has) (c.in_ok-announced.ensures.end c.in-Partial.is) empty

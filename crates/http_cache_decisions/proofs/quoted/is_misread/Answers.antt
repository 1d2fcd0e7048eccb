-- A line with a quote is one of the lines.
use Rattle.std.proofs.Common.{◌≡◌, true, false, Bool, ◌||◌, refl, sym, ap, ◌∙◌, codes}
use Rattle.std.specs.List.{list_any}
use Rattle.http_header.specs.HeaderMap.{get_all}
use Rattle.http_cache_fields.specs.Text.{is_quote}
use Rattle.http_cache_fields.specs.Headers.{bytes_of}
use Rattle.http_cache_fields.proofs.HeadersLemmas.{values-headers_of}
use Rattle.http_cache_decisions.proofs.quoted.is_misread.Goals as goal

later : (a b : Bool) → b ≡ true → a || b ≡ true
later true b e = refl
later false b e = e

pub loop-line-init : goal.loop-line-init
loop-line-init c = λ quote.
    let m = c.args.headers.now in
    let lines : c.into_iter-line-iterator.result ≡ get_all m (codes "cache-control") =
    c.into_iter-line-iterator.ensures.into_iter_gives ∙ c.iter-line-items.ensures ∙ c.get_all.ensures.value in
    ap (list_any (list_any is_quote)) (values-headers_of m (codes "cache-control"))
    ∙ sym (ap (λ vs. list_any (list_any is_quote) (bytes_of vs)) lines) ∙ quote

pub loop-line-preserved : goal.loop-line-preserved
loop-line-preserved c = λ quote.
    c.loop-line.invariant
    (ap (λ vs. list_any (list_any is_quote) (bytes_of vs)) c.in-Some.ensures.steps
    ∙ later (list_any is_quote c.in-Some.line.now.bytes) (list_any (list_any is_quote) (bytes_of c.next.new.self)) quote)

pub returns-then-is_misread_line : goal.returns-then-is_misread_line
returns-then-is_misread_line c = λ _.
    c.loop-line.invariant
    (ap (λ vs. list_any (list_any is_quote) (bytes_of vs)) c.in-Some.ensures.steps
    ∙ ap (λ b. b || list_any (list_any is_quote) (bytes_of c.next.new.self))
    (c.is_misread_line.ensures c.if-is_misread_line.true))

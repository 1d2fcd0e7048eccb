-- A text is a number if it has bytes, and each is a digit.
use Rattle.std.proofs.Common.{◌≡◌, true, length, nat_lt, ◌&&◌, sym, ap, ◌∙◌, arith, rules}
use Rattle.std.specs.Char.{is_ascii_digit}
use Rattle.std.specs.List.{list_all}
use Rattle.std.proofs.lemmas.Bool.Decides.{nat_tests}
use Rattle.std.proofs.lemmas.Iterator.{YieldsList-from_slice}
use Rattle.std.proofs.lemmas.Iterator.Search.{all_from_yields_List}
use Rattle.http_cache_decisions.proofs.head.is_digits.Goals as goal

pub returns-then-not-is_empty : goal.returns-then-not-is_empty
returns-then-not-is_empty c =
    let text = c.args.text.now in
    let filled : nat_lt 0 (length text) ≡ true = grind (arith, nat_tests) in
    let each = all_from_yields_List is_ascii_digit _ _ _ c.all.ensures.ran
    (YieldsList-from_slice text (c.iter.ensures.rest ∙ c.as_bytes.ensures.value))
    (λ x b q h. search rules) in
    each ∙ ap (λ t. t && list_all is_ascii_digit text) (sym filled)

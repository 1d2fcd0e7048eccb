-- A line of text is the members on it.
use Rattle.std.proofs.Common.{◌≡◌, ◌&&◌, ◌++◌, ℕ, List, [], Bool, true, cond, codes, length, nat_lt, refl, ap, sym, subst, ◌∙◌, append_assoc, arith}
use Rattle.std.proofs.lemmas.Bool.Decides.{nat_tests}
use Rattle.std.specs.Prelude.{string_bytes}
use Rattle.http_cache_fields.specs.Text.{is_text}
use Rattle.http_cache_fields.proofs.FieldLemmas.{is_visible_text-yes}
use Rattle.http_cache_decisions.specs.Report.{earlier_member}
use Rattle.http_cache_decisions.proofs.report.push_member.Goals as goal

pub returns : goal.returns
returns c =
    let bytes = c.args.value.now.bytes in
    let line = c.in-Ok.line.now in
    let text = string_bytes c.args.text.now in
    let is : line ≡ bytes = c.in-Ok.ensures.ok in
    let visible : is_text bytes ≡ true = is_visible_text-yes bytes (c.in-Ok.ensures.succeeds.0 refl) in
    let some : nat_lt 0 (length line) ≡ true = grind (arith, nat_tests) in
    let filled : nat_lt 0 (length bytes) ≡ true = subst (λ (l : List ℕ). nat_lt 0 (length l) ≡ true) is some in
    let member : earlier_member bytes ≡ bytes ++ codes ", " =
    ap (λ (t : Bool). cond (t && nat_lt 0 (length bytes)) (bytes ++ codes ", ") []) visible
    ∙ ap (λ (t : Bool). cond t (bytes ++ codes ", ") []) filled in
    c.in_ok-push_str-2.ensures.bytes ∙ ap (λ (t : List ℕ). t ++ codes ", ") c.in_ok-push_str.ensures.bytes
    ∙ append_assoc text line (codes ", ") ∙ ap (λ (t : List ℕ). text ++ (t ++ codes ", ")) is
    ∙ ap (λ (t : List ℕ). text ++ t) (sym member)

-- The loop ends at a line that isn't text; without one, the whole line is written.
use Rattle.std.proofs.Common.{◌≡◌, ◌∙◌, ℕ, false, ◌&&◌, List, [], ◌++◌, codes, string_bytes, if◌then◌else◌}
use Rattle.std.proofs.Common.{true≢false, Some, None, refl, sym, ap, append-nil}
use lib.Utf8.{encode}
use Rattle.std.specs.List.{list_all}
use Rattle.http_cache_fields.specs.Text.{is_text}
use Rattle.http_cache_fields.specs.Headers.{bytes_of}
use Rattle.http_cache_fields.proofs.FieldLemmas.{is_visible_text-yes, is_visible_text-no}
use Rattle.http_cache_rules.specs.Joined.{joined_text}
use Rattle.http_cache_rules.proofs.JoinedLemmas.{rest_text, rest_text-start, rest_text-turn}
use Rattle.http_cache_rules.proofs.joined.joined_text.Goals as goal

pub loop-line-init : goal.loop-line-init
loop-line-init c =
    let same = c.into_iter-line-iterator.ensures.into_iter_gives ∙ c.iter-line-items.ensures in
    let left = bytes_of c.into_iter-line-iterator.result in (
      ([], (refl, refl)),
      ap (λ vs. list_all is_text (bytes_of vs)) same,
      ap (λ (j : List ℕ). j ++ rest_text [] left) c.new-joined.ensures.bytes ∙ rest_text-start left
          ∙ ap (λ vs. joined_text (bytes_of vs)) same,
    )

pub returns-in_default : goal.returns-in_default
returns-in_default c =
    let v = c.in-Some.line.now in
    let rest = c.next.new.self in
    let hidden = is_visible_text-no v.bytes (λ seen. true≢false (sym (c.in_default.ensures.succeeds.1 seen))) in
    let all : list_all is_text (bytes_of c.args.lines) ≡ false =
    sym c.loop-line.invariant.1
    ∙ ap (λ vs. list_all is_text (bytes_of vs)) c.in-Some.ensures.steps
    ∙ ap (λ b. b && list_all is_text (bytes_of rest)) hidden in
    sym (ap (λ b. if b then Some (joined_text (bytes_of c.args.lines)) else None) all)

pub loop-line-preserved : goal.loop-line-preserved
unfolding encode
loop-line-preserved c =
    let v = c.in-Some.line.now in
    let rest = c.next.new.self in
    let visible = is_visible_text-yes v.bytes (c.in-Ok.ensures.succeeds.0 refl) in
    let steps = c.in-Some.ensures.steps in (
      (codes ", ", (refl, refl)),
      sym (ap (λ vs. list_all is_text (bytes_of vs)) steps
          ∙ ap (λ b. b && list_all is_text (bytes_of rest)) visible)
          ∙ c.loop-line.invariant.1,
      rest_text-turn c.loop-line.separator.now v.bytes (string_bytes c.loop-line.joined)
          (string_bytes c.push_str-in-loop-line.new.self) (bytes_of rest)
          (c.in_ok-push_str-2.ensures.bytes
          ∙ ap (λ (l : List ℕ). l ++ c.in-Ok.text.now) c.in_ok-push_str.ensures.bytes
          ∙ ap (λ (t : List ℕ). (string_bytes c.loop-line.joined ++ c.loop-line.separator.now) ++ t) c.in-Ok.ensures.ok)
          ∙ ap (λ vs. string_bytes c.loop-line.joined ++ rest_text c.loop-line.separator.now (bytes_of vs)) (sym steps)
          ∙ c.loop-line.invariant.2,
    )

pub returns : goal.returns
returns c =
    let left = c.in-None.ensures.steps.0 in
    let all = ap (λ vs. list_all is_text (bytes_of vs)) (sym left) ∙ c.loop-line.invariant.1 in
    let line : string_bytes c.loop-line.joined ≡ joined_text (bytes_of c.args.lines) =
    sym (append-nil (string_bytes c.loop-line.joined))
    ∙ ap (λ vs. string_bytes c.loop-line.joined ++ rest_text c.loop-line.separator.now (bytes_of vs)) (sym left)
    ∙ c.loop-line.invariant.2 in
    ap Some line
    ∙ ap (λ b. if b then Some (joined_text (bytes_of c.args.lines)) else None) all

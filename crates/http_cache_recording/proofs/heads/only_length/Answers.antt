-- A length counts only if it is the only value.
use Rattle.std.proofs.Common.{◌∷◌, codes, option_copied, sym, ap, ◌∙◌}
use Rattle.std.specs.Option.{option_and_then}
use Rattle.http_cache_fields.specs.Text.{text_of}
use Rattle.http_cache_fields.specs.Headers.{bytes_of}
use Rattle.http_cache_fields.proofs.FieldLemmas.{text_of-from_to_str}
use Rattle.http_cache_fields.proofs.HeadersLemmas.{values-headers_of}
use Rattle.http_cache_rules.specs.Conditions.{only}
use Rattle.http_cache_recording.proofs.heads.only_length.Goals as goal

pub returns-in_default : goal.returns-in_default
returns-in_default c =
    let all =
    values-headers_of c.args.headers.now (codes "content-length")
    ∙ ap bytes_of (sym (c.iter-lines.ensures ∙ c.get_all.ensures.value)) in
    sym (ap (λ vs. option_and_then text_of (only vs)) (all ∙ ap bytes_of c.in_default.ensures.steps.0))

pub returns-in-Some-next : goal.returns-in-Some-next
returns-in-Some-next c =
    let all =
    values-headers_of c.args.headers.now (codes "content-length")
    ∙ ap bytes_of (sym (c.iter-lines.ensures ∙ c.get_all.ensures.value)) in
    let two = c.in-Some.ensures.steps ∙ ap (λ vs. c.in-Some.only.now ∷ vs) c.in-Some-next.ensures.steps in
    sym (ap (λ vs. option_and_then text_of (only vs)) (all ∙ ap bytes_of two))

pub returns-in-None : goal.returns-in-None
returns-in-None c =
    let value = c.in-Some.only.now in
    let all =
    values-headers_of c.args.headers.now (codes "content-length")
    ∙ ap bytes_of (sym (c.iter-lines.ensures ∙ c.get_all.ensures.value)) in
    let one = c.in-Some.ensures.steps ∙ ap (λ vs. value ∷ vs) c.in-None.ensures.steps.0 in
    ap option_copied c.ok.ensures.value
    ∙ text_of-from_to_str value c.to_str.result c.to_str.ensures.ok c.to_str.ensures.succeeds
    ∙ sym (ap (λ vs. option_and_then text_of (only vs)) (all ∙ ap bytes_of one))

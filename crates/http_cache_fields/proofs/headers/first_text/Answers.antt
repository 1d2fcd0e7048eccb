-- The first value is returned if it is text; an absent name has none.
use Rattle.std.proofs.Common.{Some, sym, ap, ◌∙◌}
use Rattle.std.specs.Option.{option_copied, option_map, option_and_then}
use Rattle.http_cache_fields.specs.Text.{text_of}
use Rattle.http_cache_fields.proofs.FieldLemmas.{text_of-from_to_str}
use Rattle.http_cache_fields.proofs.HeadersLemmas.{first-headers_of, first-headers_of_none}
use Rattle.http_cache_fields.proofs.headers.first_text.Goals as goal

pub returns-in_err-get : goal.returns-in_err-get
returns-in_err-get g c =
    ap option_copied c.from_residual.ensures
    ∙ sym (ap (option_and_then text_of)
    (first-headers_of_none c.args.map.now (g.K.AsHeaderName.name c.args.name) (sym c.in_err-get.ensures.value)))

pub returns : goal.returns
returns g c =
    let v = c.in_ok-get.field-0.now in
    ap option_copied c.ok.ensures.value
    ∙ text_of-from_to_str v c.to_str.result c.to_str.ensures.ok c.to_str.ensures.succeeds
    ∙ ap (λ o. option_and_then text_of (option_map (λ f. f.bytes) o)) {x = Some v} c.in_ok-get.ensures.value
    ∙ sym (ap (option_and_then text_of) (first-headers_of c.args.map.now (g.K.AsHeaderName.name c.args.name)))

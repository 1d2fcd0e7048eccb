-- A look-up returns the first value.
use Rattle.std.proofs.Common.{◌≡◌, ◌∙◌, Bor, Option, Some, None, option_copied, option_map, refl, sym, ap}
use Rattle.http_header.specs.FieldValue.{FieldValue}
use Rattle.http_cache_fields.proofs.HeadersLemmas.{first-headers_of}
use Rattle.http_cache_walk.proofs.assume.first_value.Goals as goal

copied : (o : Option (Bor FieldValue))
    → option_map (λ v. v.now.bytes) o ≡ option_map (λ (v : FieldValue). v.bytes) (option_copied o)
copied None = refl
copied (Some v) = refl

pub returns : goal.returns
returns c =
    copied c.get.result
    ∙ ap (λ (o : Option FieldValue). option_map (λ v. v.bytes) o) c.get.ensures.value
    ∙ sym (first-headers_of c.args.headers.now c.args.name.now)

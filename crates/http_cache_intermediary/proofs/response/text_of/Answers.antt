-- A value is text if each of its bytes is.
use Rattle.std.proofs.Common.{ap, ◌∙◌}
use Rattle.std.specs.Option.{option_copied}
use Rattle.http_cache_fields.proofs.FieldLemmas.{text_of-from_to_str}
use Rattle.http_cache_intermediary.proofs.response.text_of.Goals as goal

pub returns : goal.returns
returns c =
    ap option_copied c.ok.ensures.value
    ∙ text_of-from_to_str c.args.value.now c.to_str.result c.to_str.ensures.ok c.to_str.ensures.succeeds

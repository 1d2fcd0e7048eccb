-- The first Pragma, if it is text, asks for validation exactly if it contains `no-cache`.
use Rattle.std.proofs.Common.{false, codes, option_map, unwrap_or, ap, ◌∙◌}
use Rattle.http_cache_fields.specs.Text.{contains}
use Rattle.http_cache_fields.proofs.ContainsLemmas.{contains-from_search}
use Rattle.http_cache_fields.proofs.pragma.pragma_forbids.Goals as goal

pub returns-in-Some : goal.returns-in-Some
returns-in-Some c =
    contains-from_search c.contains.result (codes "no-cache") c.in-Some.text.now c.contains.ensures.cases
    ∙ ap (λ o. unwrap_or (option_map (contains (codes "no-cache")) o) false) c.in-Some.ensures

-- The printed date, up to its zone, followed by GMT.
use Rattle.std.proofs.Common.{true, ℕ, List, ◌++◌, codes, ap, ◌∙◌}
use Rattle.jiff_fmt.specs.Rfc2822.{date_and_time_text}
use Rattle.http_cache_rules.proofs.DateTextLemmas.{in_zone}
use Rattle.http_cache_rules.proofs.dates.http_date.Goals as goal

pub returns-clause-text : goal.returns-clause-text
returns-clause-text c =
    let shown = c.in_ok-date.ensures.text in (
      shown.0,
      shown.1,
      c.in_gmt.ensures ∙ ap (λ (f : List ℕ). f ++ codes "GMT") c.split_at.ensures.front ∙ in_zone (date_and_time_text true shown.0) c.in_ok-date.date shown.2
          c.in_ok-date.ensures.length,
    )

-- A counted base is left of the url.
use Rattle.std.proofs.Common.{rules, ◌≡◌, ◌∙◌, sym, ap, true, Bool, string_bytes, if◌then◌else◌}
use Rattle.http_cache_findings.specs.Counts.{total_in}
use Rattle.http_cache_findings.specs.Queries.{base_of}
use Rattle.http_cache_findings.specs.Plain.{is_counted}
use Rattle.http_cache_findings.proofs.plain.plain.Goals as goal

pub returns-in_ok-from_str : goal.returns-in_ok-from_str
returns-in_ok-from_str c =
    let url = string_bytes c.args.url in
    let base : c.base_of-base.result.now ≡ base_of url = search rules in
    let changes : is_counted (total_in c.args.bases.now) (base_of url) ≡ true =
    ap (is_counted (total_in c.args.bases.now)) (sym base) ∙ (sym c.in_ok-is_counted.ensures ∙ c.if-branch.true) in
    c.in_ok-from_str.ensures.ok
    ∙ (base ∙ sym (ap (λ (b : Bool). if b then base_of url else url) changes))

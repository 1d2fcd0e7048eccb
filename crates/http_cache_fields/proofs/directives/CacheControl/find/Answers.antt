-- A name in any case finds the first directive that has it in lower case, and its value.
use Rattle.std.proofs.Common.{Some, None, rules, tests, ap, ◌∙◌}
use Rattle.std.specs.Option.{option_map, option_copied}
use Rattle.std.proofs.lemmas.Iterator.Consumers.{YieldsList-from_first}
use Rattle.std.proofs.lemmas.Iterator.Search.{find_from_yields_List}
use Rattle.http_header.specs.Token.{lowercase}
use Rattle.http_cache_fields.specs.Directives.{Directive, value_under}
use Rattle.http_cache_fields.specs.Shown.{shown_entry, shown_entries}
use Rattle.http_cache_fields.proofs.ShownLemmas.{has_lower_name, value_under-found}
use Rattle.http_cache_fields.proofs.directives.CacheControl.find.Goals as goal

pub returns-in_err-directive : goal.returns-in_err-directive
returns-in_err-directive c =
    let ds = shown_entries c.self.inside.directives.entries in
    let n = lowercase c.args.name.now in
    let first = find_from_yields_List (has_lower_name n) c.find.new.self _ None
    c.in_err-directive.ensures.ran
    (YieldsList-from_first shown_entry (λ s. s) ds (ap shown_entries c.iter.ensures.rest))
    (λ x b q k. search (rules, tests)) in
    ap (option_map option_copied) c.from_residual.ensures
    ∙ ap (option_map (λ (d : Directive). d.1)) first
    ∙ value_under-found ds n c.self.invariant.each ∙ ap (λ es. value_under es n) c.self.view_is

pub returns : goal.returns
returns c =
    let ds = shown_entries c.self.inside.directives.entries in
    let n = lowercase c.args.name.now in
    let first = find_from_yields_List (has_lower_name n) c.find.new.self _ (Some c.in_ok-directive.directive)
    c.in_ok-directive.ensures.ran
    (YieldsList-from_first shown_entry (λ s. s) ds (ap shown_entries c.iter.ensures.rest))
    (λ x b q k. search (rules, tests)) in
    ap (option_map (λ (d : Directive). d.1)) first
    ∙ value_under-found ds n c.self.invariant.each ∙ ap (λ es. value_under es n) c.self.view_is

-- A directive of a new name is added last.
use Rattle.std.proofs.Common.{sym, subst, ap, ◌∙◌}
use Rattle.std.specs.Option.{option_copied}
use Rattle.http_header.specs.Token.{lowercase}
use Rattle.http_cache_fields.specs.Directives.{Directive, value_under}
use Rattle.http_cache_fields.specs.Readable.{AreDirectives}
use Rattle.http_cache_fields.specs.Shown.{sent_entries}
use Rattle.http_cache_fields.specs.Reading.{sent_directives, with_first}
use Rattle.http_cache_fields.proofs.ReadingLemmas.{AreDirectives-with_first}
use Rattle.http_cache_fields.proofs.reading.FirstDirectives.with.Goals as goal

pub invariant_of-result : goal.invariant_of-result
invariant_of-result c =
    let d : Directive = (lowercase c.args.name.now, option_copied c.args.value) in
    let was = ap (λ t. sent_entries t.entries) c.deref_mut.ensures.value ∙ c.in_ok-table.ensures in
    subst AreDirectives (sym (c.in_ok-earlier.ensures.added ∙ ap (λ ds. with_first ds d) was))
    (AreDirectives-with_first (sent_directives c.self.inside.table) d c.self.invariant c.requires)

pub returns-clause-earlier : goal.returns-clause-earlier
returns-clause-earlier c =
    let was = ap (λ t. sent_entries t.entries) c.deref_mut.ensures.value ∙ c.in_ok-table.ensures in
    c.in_ok-earlier.ensures.found ∙ ap (λ ds. value_under ds (lowercase c.args.name.now)) (was ∙ c.self.view_is)

pub returns-clause-first : goal.returns-clause-first
returns-clause-first c =
    let d : Directive = (lowercase c.args.name.now, option_copied c.args.value) in
    let was = ap (λ t. sent_entries t.entries) c.deref_mut.ensures.value ∙ c.in_ok-table.ensures in
    c.in_ok-earlier.ensures.added ∙ ap (λ ds. with_first ds d) (was ∙ c.self.view_is)

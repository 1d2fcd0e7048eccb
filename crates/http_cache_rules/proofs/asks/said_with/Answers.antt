-- A known value stays; otherwise the first piece of the name decides.
use Rattle.std.proofs.Common.{rules, Some, sym, ap, ◌∙◌, bytes_eq}
use Rattle.std.specs.Option.{option_map}
use Rattle.http_header.specs.Token.{lowercase}
use Rattle.http_cache_fields.specs.Text.{unquote}
use Rattle.http_cache_fields.proofs.ReadLemmas.{unquoted_from_map}
use Rattle.http_cache_rules.specs.DeltaSeconds.{said_by_value, is_said}
use Rattle.http_cache_rules.proofs.AskLemmas.{said-kept, said-other, said-first}
use Rattle.http_cache_rules.proofs.asks.said_with.Goals as goal
use Rattle.http_cache_rules.proofs.asks.said_with.Goals.{then-is_said-via-then-is_said}
use Rattle.http_cache_rules.proofs.asks.said_with.Goals.{then-is_said-via-else-is_said+then-not-is_same_name}

pub returns-then-is_said : goal.returns-then-is_said
returns-then-is_said c = λ ps p said name value.
    let wanted = lowercase c.args.wanted.now in
    said ∙ elim c.then-is_said.branch [
      | then-is_said-via-then-is_said w ↦
          said-kept wanted ps p (ap is_said (sym said) ∙ sym c.is_said.ensures ∙ w.if-is_said.true)
      | then-is_said-via-else-is_said+then-not-is_same_name w ↦
          said-other wanted ps p
          (ap (bytes_eq wanted) (sym name) ∙ sym w.is_same_name.ensures ∙ w.if-not-is_same_name.true)
    ]

pub returns : goal.returns
returns c = λ ps p said name value.
    let wanted = lowercase c.args.wanted.now in
    c.of_value.ensures
    ∙ ap (λ v. said_by_value (Some v))
    (unquoted_from_map _ (λ x y h. search rules) _ _ c.map.ensures.cases ∙ ap (option_map unquote) value)
    ∙ said-first wanted ps p (ap is_said (sym said) ∙ sym c.is_said.ensures ∙ c.if-is_said.false)
    (ap (bytes_eq wanted) (sym name) ∙ sym c.is_same_name.ensures ∙ c.if-not-is_same_name.false)

-- The text ends so, or is returned as it is.
use Rattle.std.proofs.Common.{◌≡◌, ℕ, List, length, ◌-◌, take, Some, None, Bor, ap, sym, ◌∙◌}
use Rattle.std.specs.Option.{MatchOption, unwrap_or}
use Rattle.std.specs.Str.Pattern.{FindsTextSuffix, StripsSuffix}
use Rattle.http_cache_store.specs.Target.{without_ending}
use Rattle.http_cache_store.proofs.EndingLemmas.{lacks_ending, has_ending}
use Rattle.http_cache_store.proofs.target.without_ending.Goals as goal

pub returns : goal.returns
returns c =
    let text = c.args.text.now in
    let ending = c.args.ending.now in
    ap (λ (b : Bor (List ℕ)). b.now) c.unwrap_or.ensures
    ∙ (elim c.strip_suffix.result as (λ r. MatchOption r (FindsTextSuffix ending text None)
    (λ x. StripsSuffix (FindsTextSuffix ending) text x.now) → (unwrap_or r c.args.text).now ≡ without_ending ending text) [
      | None ↦ λ lacks. sym (lacks_ending ending text lacks)
      | Some x ↦ λ has.
          let front = take (length text - has.0) text in
          has.2 ∙ sym (has_ending ending text front has.1.1)
    ]) c.strip_suffix.ensures.cases

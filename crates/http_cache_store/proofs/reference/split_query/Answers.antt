-- A reference without a question mark has no query.
use Rattle.std.proofs.Common.{ℕ, List, Bool, Option, Some, None, cond, ap, sym, lit<}
use Rattle.std.specs.List.{after_first}
use Rattle.std.proofs.lemmas.Str.Pattern.{split_once_first}
use Rattle.http_cache_fields.proofs.PieceLemmas.{list_any-whole}
use Rattle.http_cache_store.specs.Reference.{is_question}
use Rattle.http_cache_store.proofs.reference.split_query.Goals as goal

pub returns-in-None-clause-query : goal.returns-in-None-clause-query
returns-in-None-clause-query c =
    let reference = c.args.reference.now in
    let none = list_any-whole is_question reference (split_once_first 63 reference None c.in-None.ensures.cases (lit< tt)) in
    let query : Bool → Option (List ℕ) = λ t. cond t (Some (after_first is_question reference)) None in
    ap query (sym none)

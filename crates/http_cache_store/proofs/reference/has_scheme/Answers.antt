-- The bytes before the first colon are those of a scheme.
use Rattle.std.proofs.Common.{◌≡◌, ◌&&◌, Bool, Some, None, ap, sym, ◌∙◌, lit<, rules}
use Rattle.std.specs.List.{before_first, list_all}
use Rattle.std.proofs.lemmas.Iterator.{YieldsList-from_slice}
use Rattle.std.proofs.lemmas.Iterator.Search.{all_from_yields_List}
use Rattle.std.proofs.lemmas.Str.Pattern.{split_once_first}
use Rattle.http_cache_fields.proofs.PieceLemmas.{list_any-whole}
use Rattle.http_cache_store.specs.Reference.{is_colon, is_scheme_byte}
use Rattle.http_cache_store.proofs.PathLemmas.{any-some}
use Rattle.http_cache_store.proofs.reference.has_scheme.Goals as goal

pub returns-in-Some : goal.returns-in-Some
returns-in-Some c =
    let reference = c.args.reference.now in
    let scheme = c.in-Some.scheme.now in
    let at = split_once_first 58 reference (Some (c.in-Some.scheme, c.in-Some.field-0-1)) c.in-Some.ensures.cases
    (lit< tt) in
    let each : c.all.result ≡ list_all is_scheme_byte scheme =
    all_from_yields_List is_scheme_byte _ _ _ c.all.ensures.ran
    (YieldsList-from_slice scheme (c.iter.ensures.rest ∙ c.as_bytes.ensures.value)) (λ x b q h. search rules) in
    each ∙ ap (list_all is_scheme_byte) at.1
    ∙ ap (λ (t : Bool). t && list_all is_scheme_byte (before_first is_colon reference)) (sym (any-some is_colon reference at.0))

pub returns-in-None : goal.returns-in-None
returns-in-None c =
    let reference = c.args.reference.now in
    let none = list_any-whole is_colon reference (split_once_first 58 reference None c.in-None.ensures.cases (lit< tt)) in
    ap (λ (t : Bool). t && list_all is_scheme_byte (before_first is_colon reference)) (sym none)

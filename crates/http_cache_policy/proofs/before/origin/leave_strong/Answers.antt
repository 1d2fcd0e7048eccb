-- The strong tags make a field value. If any are left, If-None-Match is present for them.
use Rattle.std.proofs.Common.{◌≢◌, ℕ, Bool, List, [], not, filter, codes, is_some}
use Rattle.std.proofs.Common.{slice_get, unwrap_or, string_bytes, refl, subst, ap, ◌∙◌}
use Rattle.std.specs.FinMap as fin
use Rattle.http_cache_fields.specs.Text.{begins_with}
use Rattle.http_cache_fields.specs.Headers.{Headers, headers_of, values}
use Rattle.http_cache_fields.specs.Pieces.{join}
use Rattle.http_cache_fields.proofs.HeadersLemmas.{get-remove_other}
use Rattle.http_cache_fields.proofs.JoinLemmas.{passed-is_value, passed-contains_key}
use Rattle.http_cache_policy.proofs.before.origin.leave_strong.Goals as goal

abbrev is_strong : List ℕ → Bool
is_strong piece = not (begins_with (codes "W/") piece)

pub replace_line-requires-clause-value : goal.replace_line-requires-clause-value
replace_line-requires-clause-value c =
    passed-is_value is_strong (values (headers_of c.args.headers.now) (codes "if-none-match"))
    (string_bytes c.in_ok-tags.tags)
    (c.in_ok-tags.ensures ∙ ap (λ ps. join (filter is_strong ps)) c.pieces_under.ensures)

pub replace_line-requires-clause-there : goal.replace_line-requires-clause-there
replace_line-requires-clause-there c =
    let h = headers_of c.args.headers.now in
    let tags = c.in_ok-tags.ensures ∙ ap (λ ps. join (filter is_strong ps)) c.pieces_under.ensures in
    λ (some : string_bytes c.in_ok-tags.tags ≢ []).
    ap (λ o. is_some (slice_get (unwrap_or o []) 0))
    (ap (λ (g : Headers). fin.get g (codes "if-none-match")) c.remove.ensures
    ∙ get-remove_other h (codes "if-modified-since") (codes "if-none-match") refl)
    ∙ passed-contains_key is_strong h (codes "if-none-match") (subst (λ (l : List ℕ). l ≢ []) tags some)

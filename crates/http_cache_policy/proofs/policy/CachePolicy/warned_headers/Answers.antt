-- The stored headers get the warning 113 if the age and a heuristic lifetime exceed a day.
use Rattle.std.proofs.Common.{◌≡◌, ◌≤◌, ℕ, List, ◌++◌, ◌∷◌, [], length, codes, true, unwrap_or, ap, refl, sym, subst}
use Rattle.std.proofs.Common.{◌∙◌, inr, rules, IsErrOf, if◌then◌else◌}
use Rattle.std.specs.FinMap as fin
use Rattle.http_cache_fields.specs.declared.error.CacheError.TheVariants.{HeaderMapFull}
use Rattle.http_cache_fields.specs.Headers.{Headers, headers_of, values, with_further_value, RefusesValue}
use Rattle.http_cache_fields.proofs.HeadersLemmas.{get-remove_other}
use Rattle.http_cache_rules.specs.Filter.{filtered_headers}
use Rattle.http_cache_policy.specs.Fresh.{is_guessed_past_a_day, heuristic_warning}
use Rattle.http_cache_policy.proofs.FreshLemmas.{get-insert_other}
use Rattle.http_cache_policy.proofs.BesideDateLemmas.{remove-insert, fits, warning-full}
use Rattle.http_cache_policy.proofs.policy.CachePolicy.warned_headers.Goals as goal

pub returns-in_err-append-clause-full : goal.returns-in_err-append-clause-full
returns-in_err-append-clause-full c =
    let x = headers_of c.in_ok-out.out in
    let cause : IsErrOf c.from_residual-in_err-append.result HeaderMapFull → RefusesValue x (codes "warning") =
    search rules in
    λ refused now aged printable. warning-full c.args.self.now now x c.args.dated c.in_ok-out.ensures.beside
    c.in_ok-out.ensures.undated c.in_ok-out.ensures.one_date c.in_ok-out.ensures.few
    (sym (c.is_guessed_past_a_day.ensures now aged) ∙ c.if-not-is_guessed_past_a_day.false) printable (cause refused)

pub returns-clause-ok : goal.returns-clause-ok
returns-clause-ok c = λ now aged.
    let e = c.args.self.now in
    let x = headers_of c.in_ok-out.out in
    let stored = filtered_headers e.response_headers in
    let due : is_guessed_past_a_day e now ≡ true =
    sym (c.is_guessed_past_a_day.ensures now aged) ∙ c.if-not-is_guessed_past_a_day.false in
    let bytes : c.from_static-warning.result.bytes ≡ heuristic_warning = search rules in
    let before : fin.remove x (codes "date") ≡ stored = c.in_ok-out.ensures.beside in
    let held : values x (codes "warning") ≡ values stored (codes "warning") =
    ap (λ o. unwrap_or o []) (sym (get-remove_other x (codes "date") (codes "warning") refl))
    ∙ ap (λ (g : Headers). values g (codes "warning")) before in
    ap (λ (g : Headers). fin.remove g (codes "date")) c.in_ok-append.ensures.ok
    ∙ remove-insert x (codes "date") (codes "warning")
    (values x (codes "warning") ++ c.from_static-warning.result.bytes ∷ []) refl
    ∙ (λ i. fin.insert (before i) (codes "warning") (held i ++ bytes i ∷ []))
    ∙ sym (ap (λ b. if b then with_further_value stored (codes "warning") heuristic_warning else stored) due)

pub returns-clause-undated : goal.returns-clause-undated
returns-clause-undated c = λ undated.
    ap (λ (g : Headers). fin.get g (codes "date")) c.in_ok-append.ensures.ok
    ∙ get-insert_other (headers_of c.in_ok-out.out) (codes "warning") _ (codes "date") refl
    ∙ c.in_ok-out.ensures.undated undated

pub returns-clause-one_date : goal.returns-clause-one_date
returns-clause-one_date c =
    subst (λ (vs : List (List ℕ)). length vs ≤ 1)
    (sym (ap (λ (g : Headers). values g (codes "date")) c.in_ok-append.ensures.ok
    ∙ ap (λ o. unwrap_or o []) (get-insert_other (headers_of c.in_ok-out.out) (codes "warning") _ (codes "date") refl)))
    c.in_ok-out.ensures.one_date

pub returns-clause-room : goal.returns-clause-room
returns-clause-room c = λ now aged refused.
    fits (headers_of c.in_ok-out.out) (filtered_headers c.args.self.now.response_headers) (codes "warning")
    c.in_ok-out.ensures.beside refl (λ name. c.in_ok-append.ensures.room (inr name)) refused.1

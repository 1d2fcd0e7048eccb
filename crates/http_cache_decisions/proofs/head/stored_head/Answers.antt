-- Each step changes the lines of one name.
use Rattle.std.proofs.Common.{◌≡◌, ◌≤◌, ℕ, ap, sym, subst, ◌∙◌, refl, inl, inr, codes, decimal, arith, rules, ◌⊎◌, IfErr, IsErrOf}
use Rattle.std.specs.FinMap as fin
use Rattle.http_cache_fields.specs.Headers.{Headers, headers_of, set, RefusesName}
use Rattle.http_cache_fields.specs.declared.error.CacheError.TheVariants.{Memory, HeaderMapFull}
use Rattle.http_cache_fields.proofs.HeadersLemmas.{len-headers_of}
use Rattle.http_cache_rules.specs.Joined.{joined_headers}
use Rattle.http_cache_decisions.specs.StoredHead.{IsStoredDate, IsPartlyAdjusted, KeepsOthers, joined_fields, most_names}
use Rattle.http_cache_decisions.proofs.HeadLemmas.{IsStoredHead-by_steps}
use Rattle.http_cache_decisions.proofs.RoomLemmas.{IsPartlyAdjusted-step, IsOneOr-date, IsOneOr-length, IsOneOr-expires}
use Rattle.http_cache_decisions.proofs.RoomLemmas.{adjusted-date, adjusted-length, adjusted-expires, unfit-full}
use Rattle.http_cache_decisions.proofs.head.stored_head.Goals as goal

pub returns-then-keys_len-gt-MOST_NAMES-clause-unfit : goal.returns-then-keys_len-gt-MOST_NAMES-clause-unfit
returns-then-keys_len-gt-MOST_NAMES-clause-unfit c =
    inr (inl (omega (arith, len-headers_of c.args.headers.now c.keys_len.ensures.valid.unique)))

pub returns-in_err-fix_length-clause-unfit : goal.returns-in_err-fix_length-clause-unfit
returns-in_err-fix_length-clause-unfit c =
    let h = headers_of c.args.headers.now in
    let received = c.args.received.nanosecond in
    let first = headers_of c.in_ok-head.head in
    let dated = headers_of c.store_date.new.headers in
    let r = c.from_residual-in_err-fix_length.result in
    let joined : first ≡ joined_fields h = c.in_ok-head.ensures ∙ ap joined_headers c.in_ok-forwarded.ensures in
    let known : IfErr r (λ e. (e ≡ HeaderMapFull) ⊎ (e ≡ Memory)) = search rules in
    let full : IsErrOf r HeaderMapFull → RefusesName dated (codes "content-length") = search rules in
    let step = IsPartlyAdjusted-step first first dated (codes "date") adjusted-date c.in_ok-store_date.ensures.others
    (IsOneOr-date received first dated c.in_ok-store_date.ensures.date) (λ name. inl refl) in
    unfit-full received h r known (λ was. record {
      head = dated;
      of = subst (λ (j : Headers). IsPartlyAdjusted j dated) joined step;
      name = codes "content-length";
      refuses = full was;
    })

pub returns-in_err-set_age-clause-unfit : goal.returns-in_err-set_age-clause-unfit
returns-in_err-set_age-clause-unfit c =
    let h = headers_of c.args.headers.now in
    let received = c.args.received.nanosecond in
    let first = headers_of c.in_ok-head.head in
    let dated = headers_of c.store_date.new.headers in
    let sized = headers_of c.fix_length.new.headers in
    let fixed = headers_of c.fix_expires.new.headers in
    let r = c.from_residual-in_err-set_age.result in
    let joined : first ≡ joined_fields h = c.in_ok-head.ensures ∙ ap joined_headers c.in_ok-forwarded.ensures in
    let known : IfErr r (λ e. (e ≡ HeaderMapFull) ⊎ (e ≡ Memory)) = search rules in
    let full : IsErrOf r HeaderMapFull → RefusesName fixed (codes "age") = search rules in
    let one = IsPartlyAdjusted-step first first dated (codes "date") adjusted-date c.in_ok-store_date.ensures.others
    (IsOneOr-date received first dated c.in_ok-store_date.ensures.date) (λ name. inl refl) in
    let two = IsPartlyAdjusted-step first dated sized (codes "content-length") adjusted-length
    c.in_ok-fix_length.ensures.others
    (IsOneOr-length h (fin.get dated (codes "content-length")) (fin.get sized (codes "content-length"))
    c.in_ok-fix_length.ensures.length) one in
    let three = IsPartlyAdjusted-step first sized fixed (codes "expires") adjusted-expires
    c.in_ok-fix_expires.ensures.others (IsOneOr-expires sized fixed c.in_ok-fix_expires.ensures.expires) two in
    unfit-full received h r known (λ was. record {
      head = fixed;
      of = subst (λ (j : Headers). IsPartlyAdjusted j fixed) joined three;
      name = codes "age";
      refuses = full was;
    })

pub returns-clause-stored : goal.returns-clause-stored
returns-clause-stored c =
    let h = headers_of c.args.headers.now in
    let received = c.args.received.nanosecond in
    let dated = headers_of c.store_date.new.headers in
    let sized = headers_of c.fix_length.new.headers in
    let fixed = headers_of c.fix_expires.new.headers in
    let joined : headers_of c.in_ok-head.head ≡ joined_fields h =
    c.in_ok-head.ensures ∙ ap joined_headers c.in_ok-forwarded.ensures in
    let few : fin.len h ≤ most_names =
    omega (arith, len-headers_of c.args.headers.now c.keys_len.ensures.valid.unique) in
    IsStoredHead-by_steps c.args.sent.nanosecond received h dated sized fixed few
    (sym c.names_rules.ensures ∙ c.if-names_rules.false)
    (subst (λ (j : Headers). IsStoredDate received j dated) joined c.in_ok-store_date.ensures.date)
    (subst (λ (j : Headers). KeepsOthers (codes "date") j dated) joined c.in_ok-store_date.ensures.others)
    c.in_ok-fix_length.ensures.length c.in_ok-fix_length.ensures.others
    c.in_ok-fix_expires.ensures.expires c.in_ok-fix_expires.ensures.others
    (headers_of c.set_age.new.headers)
    (c.in_ok-set_age.ensures.ok ∙ ap (λ (n : ℕ). set fixed (codes "age") (decimal n)) c.stored_age.ensures)

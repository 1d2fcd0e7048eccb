-- A fresh answer has the stored status, and Age and Date at the time.
use Rattle.std.proofs.Common.{◌≡◌, ◌/◌, ◌∷◌, [], ℕ, List, false, Option, is_some, decimal, codes, refl, sym, ap}
use Rattle.std.proofs.Common.{subst, ◌∙◌, inl, inr, rules, IsErrOf, IfSome, true≢false}
use Rattle.std.specs.FinMap as fin
use Rattle.http_cache_fields.specs.declared.error.CacheError.TheVariants.{HeaderMapFull}
use Rattle.http_cache_fields.specs.Headers.{Headers, headers_of, set, RefusesName}
use Rattle.http_cache_rules.specs.Dates.{IsDateText, IsPrintable}
use Rattle.http_cache_rules.proofs.DateTextLemmas.{date_is_value}
use Rattle.http_cache_policy.specs.Age.{age_at}
use Rattle.http_cache_policy.specs.Fresh.{warned_headers, age_text, aged_headers, RefusesFreshHeaders, HasNoDate}
use Rattle.http_cache_policy.proofs.BesideDateLemmas.{remove-absent, remove-insert, insert-over, fits, date_fits, age-full}
use Rattle.http_cache_policy.proofs.policy.CachePolicy.cached_response.Goals as goal

pub returns-in_err-insert-clause-full : goal.returns-in_err-insert-clause-full
unfolding RefusesFreshHeaders
returns-in_err-insert-clause-full c =
    let e = c.args.self.now in
    let now = c.args.now.nanosecond in
    let x = headers_of c.in_ok-headers.headers in
    let cause : IsErrOf c.from_residual-in_err-insert.result HeaderMapFull → RefusesName x (codes "age") =
    search rules in
    let none : c.is_some.result ≡ false = search rules in
    let same : x ≡ warned_headers e now =
    sym (remove-absent x (codes "date") (c.in_ok-headers.ensures.undated none))
    ∙ c.in_ok-headers.ensures.ok now c.requires in
    λ refused. inr (inl (subst (λ (g : Headers). RefusesName g (codes "age")) same (cause refused)))

pub returns-in_default-clause-unprintable : goal.returns-in_default-clause-unprintable
unfolding HasNoDate
returns-in_default-clause-unprintable c =
    let e = c.args.self.now in
    let now = c.args.now.nanosecond in
    let x = headers_of c.in_ok-headers.headers in
    let none : c.is_some.result ≡ false = search rules in
    let no_text : is_some c.print_date-date.result ≡ false = search rules in
    let same : x ≡ warned_headers e now =
    sym (remove-absent x (codes "date") (c.in_ok-headers.ensures.undated none))
    ∙ c.in_ok-headers.ensures.ok now c.requires in
    λ _. (
      c.in_ok-headers.ensures.room now c.requires,
      subst (λ (g : Headers). ¬ (RefusesName g (codes "age"))) same c.in_ok-insert.ensures.room,
      λ (printable : IsPrintable now). true≢false (sym (c.print_date-date.ensures.printable.1 printable) ∙ no_text),
    )

pub age_and_date-requires : goal.age_and_date-requires
age_and_date-requires c =
    date_is_value c.args.now.nanosecond c.in-Some.date
    (subst (λ (o : Option (List ℕ)). IfSome o (IsDateText c.args.now.nanosecond)) c.in-Some.is
    c.print_date-date.ensures.text)

pub returns-in_err-insert-2-clause-full : goal.returns-in_err-insert-2-clause-full
returns-in_err-insert-2-clause-full c =
    let e = c.args.self.now in
    let now = c.args.now.nanosecond in
    let x = headers_of c.in_ok-headers.headers in
    let cause : IsErrOf c.from_residual-in_err-insert-2.result HeaderMapFull → RefusesName x (codes "age") =
    search rules in
    let printable : IsPrintable now = c.print_date-date.ensures.printable.0 (ap is_some c.in-Some.is) in
    λ refused. age-full e now x (c.in_ok-headers.ensures.ok now c.requires) c.in_ok-headers.ensures.one_date printable
    (cause refused)

pub returns-in_err-insert-3-clause-full : goal.returns-in_err-insert-3-clause-full
unfolding RefusesFreshHeaders
returns-in_err-insert-3-clause-full c =
    let e = c.args.self.now in
    let now = c.args.now.nanosecond in
    let x = headers_of c.in_ok-headers.headers in
    let aged = headers_of c.insert-2.new.map in
    let cause : IsErrOf c.from_residual-in_err-insert-3.result HeaderMapFull → RefusesName aged (codes "date") =
    search rules in
    let printable : IsPrintable now = c.print_date-date.ensures.printable.0 (ap is_some c.in-Some.is) in
    let seconds : c.as_secs-2.result ≡ age_at e now / 1_000_000_000 =
    c.as_secs-2.ensures ∙ ap (λ n. n / 1_000_000_000) c.requires in
    let printed : c.in_ok-age.age.bytes ≡ age_text e now =
    ap (λ v. v.bytes) c.in_ok-age.ensures.age ∙ ap decimal seconds in
    let with_age : fin.remove aged (codes "date") ≡ aged_headers e now =
    ap (λ (g : Headers). fin.remove g (codes "date")) c.in_ok-insert-2.ensures.ok
    ∙ remove-insert x (codes "date") (codes "age") (c.in_ok-age.age.bytes ∷ []) refl
    ∙ (λ i. set (c.in_ok-headers.ensures.ok now c.requires i) (codes "age") (printed i)) in
    λ refused. let r = cause refused in
    inr (inr (
      printable,
      subst (λ (g : Headers). RefusesName g (codes "date"))
          (sym (remove-absent aged (codes "date") r.0) ∙ with_age) r,
    ))

pub returns-clause-fresh : goal.returns-clause-fresh
returns-clause-fresh c =
    let e = c.args.self.now in
    let now = c.args.now.nanosecond in
    let x = headers_of c.in_ok-headers.headers in
    let aged = headers_of c.insert-2.new.map in
    let before : fin.remove x (codes "date") ≡ warned_headers e now = c.in_ok-headers.ensures.ok now c.requires in
    let seconds : c.as_secs-2.result ≡ age_at e now / 1_000_000_000 =
    c.as_secs-2.ensures ∙ ap (λ n. n / 1_000_000_000) c.requires in
    let both = c.in_ok-age in
    let printed : both.age.bytes ≡ age_text e now =
    ap (λ v. v.bytes) c.in_ok-age.ensures.age ∙ ap decimal seconds in
    let dated : both.date.bytes ≡ c.in-Some.date = ap (λ v. v.bytes) c.in_ok-age.ensures.date in
    let with_age : fin.remove aged (codes "date") ≡ aged_headers e now =
    ap (λ (g : Headers). fin.remove g (codes "date")) c.in_ok-insert-2.ensures.ok
    ∙ remove-insert x (codes "date") (codes "age") (both.age.bytes ∷ []) refl
    ∙ (λ i. set (before i) (codes "age") (printed i)) in
    record {
      status = c.stored_status.ensures;
      version = refl;
      headers = record {
        warning_fits = c.in_ok-headers.ensures.room now c.requires;
        age_fits = fits x (warned_headers e now) (codes "age") before refl c.in_ok-insert-2.ensures.room;
        printable = c.print_date-date.ensures.printable.0 (ap is_some c.in-Some.is);
        date_fits =
            date_fits c.insert-2.new.map (aged_headers e now) c.reveal_header_map.ensures with_age
            c.in_ok-insert-3.ensures.room;
        date = c.in-Some.date;
        is_date =
            subst (λ (o : Option (List ℕ)). IfSome o (IsDateText now)) c.in-Some.is c.print_date-date.ensures.text;
        headers =
            c.in_ok-insert-3.ensures.ok ∙ insert-over aged (codes "date") (both.date.bytes ∷ [])
            ∙ (λ i. set (with_age i) (codes "date") (dated i));
      };
    }

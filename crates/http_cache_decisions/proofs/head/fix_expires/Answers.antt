-- What is no date becomes `0`.
use Rattle.std.proofs.Common.{◌≡◌, true, false, [], ◌∷◌, Some, codes, ap, sym, ◌∙◌}
use Rattle.http_header.specs.FieldValue.{FieldValue}
use Rattle.http_cache_fields.specs.Headers.{headers_of, contains_key}
use Rattle.http_cache_decisions.specs.StoredHead.{has_date}
use Rattle.http_cache_decisions.proofs.HeadLemmas.{set-is}
use Rattle.http_cache_decisions.proofs.head.fix_expires.Goals as goal

pub returns-clause-expires : goal.returns-clause-expires
returns-clause-expires c =
    let old = headers_of c.args.headers.now in
    let there : contains_key old (codes "expires") ≡ true = sym c.contains_key.ensures ∙ c.if-not-contains_key.false in
    let undated : has_date old (codes "expires") ≡ false = sym c.has_date.ensures ∙ c.if-has_date.false in
    let is = set-is old (headers_of c.replace.new.map) (codes "expires") c.from_static.result.bytes c.replace.ensures in
    record {
      absent = λ none. let no : true ≡ false = sym there ∙ none in cc;
      date = λ dated. let no : true ≡ false = sym dated ∙ undated in cc;
      other = λ _ _. is.0 ∙ ap (λ (v : FieldValue). Some (v.bytes ∷ [])) c.from_static.ensures;
    }

pub returns-clause-others : goal.returns-clause-others
returns-clause-others c =
    (set-is (headers_of c.args.headers.now) (headers_of c.replace.new.map) (codes "expires")
    c.from_static.result.bytes c.replace.ensures).1

-- The look-up finds the first Host.
use Rattle.std.proofs.Common.{◌≡◌, ℕ, List, [], codes, Option, Some, None, IfOk, ap, sym, subst, ◌∙◌, rules}
use Rattle.std.specs.Prelude.{unwrap_or, option_map}
use Rattle.http_header.specs.FieldValue.{FieldValue}
use Rattle.http_header.specs.HeaderMap.{Entries, get}
use Rattle.http_cache_fields.specs.Headers.{headers_of, first}
use Rattle.http_cache_fields.proofs.HeadersLemmas.{first-headers_of}
use Rattle.http_cache_intermediary.proofs.request.received_host.Goals as goal

found : (m : Entries FieldValue) (o : Option FieldValue) → o ≡ get m (codes "host")
    → unwrap_or (first (headers_of m) (codes "host")) [] ≡ unwrap_or (option_map (λ v. v.bytes) o) []
found m o e =
    ap (λ v. unwrap_or v []) (first-headers_of m (codes "host"))
    ∙ ap (λ v. unwrap_or (option_map (λ (f : FieldValue). f.bytes) v) []) (sym e)

pub returns-in-Some : goal.returns-in-Some
returns-in-Some c =
    let host = c.in-Some.host.now in
    subst (λ (b : List ℕ). IfOk c.clone.result (λ (v : FieldValue). v.bytes ≡ b))
    (sym (found c.args.headers.now (Some host) c.in-Some.ensures.value)) (search rules)

pub returns-in-None : goal.returns-in-None
returns-in-None c =
    ap (λ (v : FieldValue). v.bytes) c.from_static.ensures
    ∙ sym (found c.args.headers.now None c.in-None.ensures.value)

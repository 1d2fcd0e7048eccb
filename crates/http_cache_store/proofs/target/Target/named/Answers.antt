-- The reference names by its own host, or at the origin of the request.
use Rattle.std.proofs.Common.{◌≡◌, ◌++◌, ℕ, List, Bool, true, false, Option, Some, IfOk, sym, subst, ap, ◌∙◌}
use Rattle.std.specs.Prelude.{codes, option_map}
use Rattle.http_uri.specs.Uri.{uri_path, uri_query}
use Rattle.http_cache_fields.specs.Headers.{headers_of}
use Rattle.http_cache_store.specs.Reference.{names_host, path_of, query_of, resolved_path, resolved_query, with_scheme}
use Rattle.http_cache_store.specs.Target.{authority_of, IsNamedByText, IsNamedIn, text_after, text_of}
use Rattle.http_cache_store.specs.declared.target.Target.{Target}
use Rattle.http_cache_store.proofs.target.Target.named.Goals as goal

pub returns-then-names_host : goal.returns-then-names_host
returns-then-names_host c =
    let uri = c.args.uri.now in
    let headers = headers_of c.args.headers.now in
    let rest = c.without_fragment-reference.result.now in
    let host : IfOk c.named_by_host.result (λ named. IsNamedIn uri headers true rest (option_map text_of named)) =
    subst (λ (s : List ℕ). IfOk c.named_by_host.result (λ named. IsNamedByText s (authority_of uri headers) (with_scheme s rest)
    (option_map text_of named))) c.of-origin.ensures.scheme
    (subst (λ (a : List ℕ). IfOk c.named_by_host.result (λ named. IsNamedByText c.of-origin.result.scheme.now a
    (with_scheme c.of-origin.result.scheme.now rest) (option_map text_of named))) c.of-origin.ensures.authority
    c.named_by_host.ensures) in
    let is : true ≡ names_host rest = sym c.if-names_host.true ∙ c.names_host.ensures in
    let Named : List ℕ → Type 0 = λ r. IfOk c.named_by_host.result (λ named. IsNamedIn uri headers (names_host r) r (option_map text_of named)) in
    let named = subst Named c.without_fragment-reference.ensures
    (subst (λ (b : Bool). IfOk c.named_by_host.result (λ named. IsNamedIn uri headers b rest (option_map text_of named))) is host) in
    record { named = named }

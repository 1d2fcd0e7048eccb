-- The requested tags, followed by the stored one, make a field value.
use Rattle.std.proofs.Common.{[], ◌∷◌, ◌++◌, codes, ap, ◌∙◌}
use Rattle.http_cache_fields.specs.Headers.{headers_of, first, values}
use Rattle.http_cache_fields.specs.Pieces.{join}
use Rattle.http_cache_fields.proofs.JoinLemmas.{with-is_value, first_text-is_text}
use Rattle.http_cache_policy.proofs.policy.CachePolicy.add_tag.Goals as goal

pub value_of-requires : goal.value_of-requires
value_of-requires c =
    let tag = c.in-Some.tag.now in
    let stored = first (headers_of c.stored_headers.result.now) (codes "etag") in
    let text = first_text-is_text stored tag c.in-Some.ensures in
    with-is_value (values (headers_of c.args.headers.now) (codes "if-none-match")) tag c.into_bytes.result.items text
    (ap (λ v. v.items) c.into_bytes.ensures.value
    ∙ c.in_ok-line.ensures
    ∙ ap (λ ps. join (ps ++ tag ∷ [])) c.pieces_under.ensures)

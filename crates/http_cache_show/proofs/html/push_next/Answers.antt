-- What is after the hole is the rest of the template.
use Rattle.std.proofs.Common.{Some, string_bytes}
use Rattle.std.proofs.lemmas.Str.Pattern.{split_parts}
use Rattle.http_cache_show.specs.Tags.{is_value, mark_of}
use Rattle.http_cache_show.proofs.TagLemmas.{past-hole, mark-small}
use Rattle.http_cache_show.proofs.html.push_next.Goals as goal

pub returns : goal.returns
returns c held =
    let parts = split_parts (mark_of c.args.item) c.args.template.now (Some (c.in-Some.piece, c.in-Some.rest))
    (rw c.mark_of.ensures at c.in-Some.ensures.cases) (mark-small (is_value c.args.item)) in
    past-hole (string_bytes c.args.html.now) c.in-Some.piece.now (string_bytes c.push_str.new.self)
    (string_bytes c.push_escaped.new.html) c.in-Some.rest.now c.args.item c.in_ok-push_str.ensures.bytes
    c.push_escaped.ensures (rw parts.0 at held)

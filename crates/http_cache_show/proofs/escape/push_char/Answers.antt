-- An entity and any other character are text.
use Rattle.std.proofs.Common.{string_bytes, encode_utf8}
use Rattle.std.specs.Prelude.{is_ok}
use Rattle.http_cache_show.proofs.TagLemmas.{text-after, char-safe}
use Rattle.http_cache_show.proofs.escape.push_char.Goals as goal

pub returns-in-Some : goal.returns-in-Some
returns-in-Some c =
    text-after (is_ok c.push_str.result) (string_bytes c.args.html.now) c.in-Some.entity.now
    (string_bytes c.push_str.new.self) c.push_str.ensures.bytes c.in-Some.ensures

pub returns-in-None : goal.returns-in-None
returns-in-None c =
    text-after (is_ok c.push.result) (string_bytes c.args.html.now) (encode_utf8 c.args.c) (string_bytes c.push.new.self)
    c.push.ensures.bytes (char-safe c.args.c c.in-None.ensures)

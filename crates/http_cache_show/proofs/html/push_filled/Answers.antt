-- The rest ends between tags.
use Rattle.std.proofs.Common.{string_bytes}
use Rattle.http_cache_show.proofs.TagLemmas.{filled}
use Rattle.http_cache_show.proofs.html.push_filled.Goals as goal

pub returns : goal.returns
returns c =
    filled c.push_str.result (string_bytes c.loop-item.html) c.loop-item.rest.now (string_bytes c.push_str.new.self)
    c.loop-item.invariant.1 c.push_str.ensures.bytes

-- Each validator is added in turn.
use Rattle.std.proofs.Common.{refl}
use Rattle.http_cache_walk.specs.Own.{shown_by}
use Rattle.http_cache_walk.proofs.own.shown_by.Goals as goal

pub returns : goal.returns
unfolding shown_by
returns c =
    rw (
      c.in_ok-add_value-2.ensures,
      c.in_ok-add_value.ensures,
      c.first_value.ensures,
      c.tag_of.ensures,
      c.in_ok-headers.ensures,
    ) refl

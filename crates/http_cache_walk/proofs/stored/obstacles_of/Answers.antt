-- All conditions that forbid to store the response are reported.
use Rattle.std.proofs.Common.{◌≡◌, false, sym, ap, ◌∙◌, refl}
use Rattle.http_cache_semantics.specs.Storability.{is_storable}
use Rattle.http_cache_semantics.specs.Storability.{obstacles, is_allowed}
use Rattle.http_cache_walk.proofs.StoredLemmas.{reported}
use Rattle.http_cache_walk.proofs.stored.obstacles_of.Goals as goal

pub returns-in-Forbidden : goal.returns-in-Forbidden
returns-in-Forbidden c =
    let e = c.args.policy.now in
    let said = c.storability.ensures in
    let is = c.in-Forbidden.is in
    let not_allowed : is_storable e ≡ false = sym said.storable ∙ ap is_allowed is in
    let whole : c.in-Forbidden.obstacles ≡ obstacles e = reported e c.in-Forbidden.obstacles (sym said.value ∙ is) in
    rw (not_allowed, whole) refl

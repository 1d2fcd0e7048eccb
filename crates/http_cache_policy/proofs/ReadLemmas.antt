-- What is kept of a kept exchange that was read back.
use Rattle.std.proofs.Common.{◌≡◌, refl, ap, ◌∙◌}
use Rattle.http_uri.specs.declared.uri.Uri.{Uri}
use Rattle.http_cache_policy.specs.Exchange.{Exchange}
use Rattle.http_cache_policy.specs.Kept.{kept_exchange}
use Rattle.http_cache_policy.specs.Stored.{ReadsBack, with_target}

kept-with_target : (e : Exchange) (target : Uri)
    → kept_exchange (with_target e target) ≡ with_target (kept_exchange e) target
unfolding kept_exchange
kept-with_target e target = refl

-- a kept exchange is kept as it reads back
pub kept-restored : (e f : Exchange) → kept_exchange e ≡ e → ReadsBack e f → kept_exchange f ≡ with_target e f.target
kept-restored e f settled back =
    ap kept_exchange back.same
    ∙ kept-with_target e f.target
    ∙ ap (λ kept. with_target kept f.target) settled

use Rattle.std.proofs.Common.{rules, ◌≡◌, ◌∷◌}
use Rattle.http_cache_bytes.proofs.choice.add_form.Goals as goal

pub returns-clause-added : goal.returns-clause-added
returns-clause-added c =
    let added : c.add.new.self ≡ c.in_ok-policy.policy ∷ c.args.variants.now = search rules in
    (c.in_ok-policy.policy, c.in_ok-policy.ensures.found, added)

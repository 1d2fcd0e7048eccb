-- There is one chain, since what a cache sends is determined.
use Rattle.std.proofs.Common.{◌≡◌, ℤ, List, [], ◌∷◌, refl, sym, ap, subst, ◌∙◌, true≢false}
use Rattle.http_cache_fields.specs.Headers.{Headers}
use Rattle.http_cache_policy.specs.Messages.{RequestSeen}
use Rattle.http_cache_policy.specs.Exchange.{Exchange}
use Rattle.http_cache_policy.specs.Kept.{kept_exchange}
use Rattle.http_cache_semantics.specs.Chain.{IsHandedOn, Follow, IsChain}
use Rattle.http_cache_policy.proofs.FreshUniqueLemmas.{IsFreshHeaders-unique}

pub handed_on-unique : (e : Exchange) (now : ℤ) (x y : Exchange) → IsHandedOn e now x → IsHandedOn e now y → x ≡ y
handed_on-unique e now x y a b =
    a.is_kept
    ∙ ap (λ (h : Headers). kept_exchange (record e { response_headers = h; response_time = now }))
    (IsFreshHeaders-unique e now a.headers b.headers a.are_fresh b.are_fresh)
    ∙ sym b.is_kept

module _ (request : RequestSeen) where
  follow-unique : (e : Exchange) (moments : List ℤ) (xs ys : List Exchange)
      → Follow request e moments xs → Follow request e moments ys → xs ≡ ys
  follow-unique e [] xs ys f g = f ∙ sym g
  follow-unique e (now ∷ moments) [] [] f g = refl
  follow-unique e (now ∷ moments) [] (y ∷ ys) f g = absurd (true≢false (sym g.0 ∙ f))
  follow-unique e (now ∷ moments) (x ∷ xs) [] f g = absurd (true≢false (sym f.0 ∙ g))
  follow-unique e (now ∷ moments) (x ∷ xs) (y ∷ ys) f g =
      let same : y ≡ x = handed_on-unique e now y x g.1 f.1 in
      let rest : Follow request x moments ys = subst (λ (z : Exchange). Follow request z moments ys) same g.2 in
      (λ i. sym same i ∷ follow-unique x moments xs ys f.2 rest i)

  pub chain-unique : (first : Exchange) (moments : List ℤ) (xs ys : List Exchange)
      → IsChain request first moments xs → IsChain request first moments ys → xs ≡ ys
  chain-unique first moments xs ys c d =
      c.are
      ∙ ap (λ (behind : List Exchange). first ∷ behind)
      (follow-unique first moments c.behind d.behind c.follow d.follow)
      ∙ sym d.are

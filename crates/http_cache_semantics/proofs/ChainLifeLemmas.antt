-- Explicit lifetimes along a chain of caches.
use Rattle.std.proofs.Common.{◌≡◌, ℕ, ℤ, true, List, [], ◌∷◌, length, slice_get}
use Rattle.std.proofs.Common.{zero, suc, refl, sym, ap, subst, ◌∙◌, arith}
use Rattle.std.proofs.lemmas.Option.{slice_get_within}
use Rattle.http_cache_policy.specs.Messages.{RequestSeen}
use Rattle.http_cache_policy.specs.Exchange.{Exchange}
use Rattle.http_cache_policy.specs.Kept.{kept_exchange}
use Rattle.http_cache_policy.specs.Age.{time_to_live_at}
use Rattle.http_cache_policy.specs.Verdict.{is_fresh_for}
use Rattle.http_cache_semantics.specs.Chain.{IsHandedOn, Follow, IsChain}
use Rattle.http_cache_semantics.specs.ChainLaws.{IsAt, NeverGoDown, IsExplicit, IsAgedLike, SaysLike, ExpiresLike}
use Rattle.http_cache_policy.proofs.KeptLemmas.{kept-settled}
use Rattle.http_cache_semantics.proofs.ExplicitLemmas.{kept-handed, storable-same, directives-same}
use Rattle.http_cache_semantics.proofs.ExplicitLemmas.{lifetime-same, explicit-after}
use Rattle.http_cache_semantics.proofs.ChainAgeLemmas.{ages-along_chain}

module _ (request : RequestSeen) where
  next-is : (e : Exchange) (now : ℤ) (next : Exchange) → is_fresh_for e request now ≡ true
      → (handed : IsHandedOn e now next) → kept_exchange e ≡ e → IsExplicit e
      → next ≡ record e { response_headers = handed.headers; response_time = now }
  next-is e now next met handed settled explicit =
      handed.is_kept ∙ kept-handed request e now handed.headers handed.are_fresh met settled explicit

  -- the next cache's response has the directives of the one before
  next-says : (e : Exchange) (now : ℤ) (next : Exchange) → is_fresh_for e request now ≡ true
      → IsHandedOn e now next → kept_exchange e ≡ e → IsExplicit e → SaysLike e next
  next-says e now next met handed settled explicit =
      let h = handed.headers in
      subst (SaysLike e) (sym (next-is e now next met handed settled explicit)) (record {
        storable = storable-same request e now h handed.are_fresh met settled explicit;
        directives = directives-same request e now h handed.are_fresh met settled explicit;
        lifetime_is = lifetime-same request e now h handed.are_fresh met settled explicit;
      })

  next-explicit : (e : Exchange) (now : ℤ) (next : Exchange) → is_fresh_for e request now ≡ true
      → IsHandedOn e now next → kept_exchange e ≡ e → IsExplicit e → IsExplicit next
  next-explicit e now next met handed settled explicit =
      subst IsExplicit (sym (next-is e now next met handed settled explicit))
      (explicit-after request e now handed.headers handed.are_fresh met settled explicit)

  next-settled : (e : Exchange) (now : ℤ) (next : Exchange) → IsHandedOn e now next → kept_exchange next ≡ next
  next-settled e now next handed = subst (λ (x : Exchange). kept_exchange x ≡ x) (sym handed.is_kept) (kept-settled _)

  follow-says : (e : Exchange) (moments : List ℤ) (behind : List Exchange)
      → kept_exchange e ≡ e → IsExplicit e → Follow request e moments behind
      → (index : ℕ) (x : Exchange) → IsAt (e ∷ behind) index x → SaysLike e x
  follow-says e moments behind settled explicit chain zero x at =
      let same : e ≡ x = cc in
      subst (SaysLike e) same (record { storable = refl; directives = refl; lifetime_is = refl })
  follow-says e moments [] settled explicit chain (suc index) x at =
      absurd (omega (arith, slice_get_within (e ∷ []) (suc index) x at))
  follow-says e [] (next ∷ behind) settled explicit chain (suc index) x at =
      let none = chain in
      absurd (omega (arith, ap length none))
  follow-says e (now ∷ moments) (next ∷ behind) settled explicit chain (suc index) x at =
      let here = next-says e now next chain.0 chain.1 settled explicit in
      let rest =
      follow-says next moments behind (next-settled e now next chain.1)
      (next-explicit e now next chain.0 chain.1 settled explicit) chain.2 index x at in
      record {
        storable = rest.storable ∙ here.storable;
        directives = rest.directives ∙ here.directives;
        lifetime_is = rest.lifetime_is ∙ here.lifetime_is;
      }

  -- equal lifetimes with close ages expire close together
  expires-like : (first : Exchange) (hops : ℕ) (e : Exchange)
      → SaysLike first e → IsAgedLike first hops e → ExpiresLike first hops e
  unfolding time_to_live_at
  expires-like first hops e says aged = record {
    no_sooner = λ now after. omega (arith, says.lifetime_is, aged.no_older now after);
    hardly_later = λ now after. omega (arith, says.lifetime_is, aged.not_far_behind now after);
  }

  module _ (first : Exchange) (moments : List ℤ) (exchanges : List Exchange)
      (chain : IsChain request first moments exchanges)
      (settled : kept_exchange first ≡ first) (explicit : IsExplicit first) where
    pub says-along_chain : (index : ℕ) (e : Exchange) → IsAt exchanges index e → SaysLike first e
    says-along_chain index e at =
        follow-says first moments chain.behind settled explicit chain.follow index e
        (ap (λ es. slice_get es index) (sym chain.are) ∙ at)

    pub expires-along_chain : NeverGoDown first.response_time moments
        → (index : ℕ) (e : Exchange) → IsAt exchanges index e → ExpiresLike first index e
    expires-along_chain order index e at =
        expires-like first index e (says-along_chain index e at)
        (ages-along_chain request first moments exchanges chain order index e at)

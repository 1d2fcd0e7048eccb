-- A call that keeps what lasts of other targets, and a later call, keep most of them together.
use Rattle.std.proofs.Common.{◌≡◌, ℕ, List, ap, ◌∙◌, inl, inr}
use Rattle.http_cache_store.specs.Store.{StoredByTarget, KeepsAllOthers, KeepsMost, usable}
use Rattle.http_cache_client.specs.Keep.{KeepsLasting}

module _ (old lasting mid lasting_mid : StoredByTarget) (own : List ℕ) where
  pub KeepsLasting-same : mid ≡ old → KeepsAllOthers lasting lasting_mid own
      → KeepsLasting old lasting mid lasting_mid own
  KeepsLasting-same same keeps other ne = (keeps other ne, inl (ap (λ s. s other) same))

  pub KeepsMost-after : (new : StoredByTarget) → KeepsLasting old lasting mid lasting_mid own
      → KeepsMost mid lasting_mid new own → KeepsMost old lasting new own
  KeepsMost-after new first second other ne =
      let lasts = (first other ne).0 in
      elim (second other ne) [
        | inl same ↦ elim ((first other ne).1) [
          | inl was ↦ inl (same ∙ was)
          | inr lasted ↦ inr (inl (same ∙ lasted))
        ]
        | inr (inl lasted) ↦ inr (inl (lasted ∙ lasts))
        | inr (inr (inl fewer)) ↦ inr (inr (inl (fewer.0, fewer.1 ∙ ap (usable fewer.0) lasts)))
        | inr (inr (inr none)) ↦ inr (inr (inr none))
      ]

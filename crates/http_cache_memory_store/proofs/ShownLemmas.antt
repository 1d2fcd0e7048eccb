-- A store in memory shows what it stores.
use Rattle.std.proofs.Common.{◌≡◌, List, [], ◌∷◌, map, Option, Some, None, IfSome, refl}
use Rattle.std.specs.Option.{option_map_or}
use Rattle.http_cache_store.specs.declared.store.StoredResponse.{StoredResponse}
use Rattle.http_cache_store.specs.Store.{ShowsAll}
use Rattle.http_cache_memory_store.specs.Stored.{seen_of}

shown : {Z : Type 0} (o : Option (List Z)) → IfSome o (λ body. body ≡ option_map_or (λ b. b) o [])
shown None = tt
shown (Some b) = refl

pub shows : (xs : List StoredResponse) → ShowsAll (λ body. body) xs (map seen_of xs)
shows [] = tt
shows (x ∷ xs) = (record { id = refl; exchange = refl; body = shown x.body }, shows xs)

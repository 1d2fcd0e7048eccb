-- Responses whose bodies are on their way, and which of them aren't stored.
use Rattle.std.specs.Prelude.{◌≡◌, true, ⊤}
use Rattle.http_cache_errands.specs.declared.errands.Errand.{Errand}
use Rattle.http_cache_errands.specs.declared.errands.Errand.TheVariants.{Own, Check, Failed, Rest}

-- the response isn't stored
abbrev pub IsUnstorable : Errand → Type 0
IsUnstorable (Own forwarded) = forwarded.is_past_store ≡ true
IsUnstorable (Check validation) = validation.is_past_store ≡ true
IsUnstorable (Failed forwarded) = forwarded.is_past_store ≡ true
IsUnstorable (Rest rest) = ⊤

-- What holds of one script of the bytes holds of each.
use Rattle.std.proofs.Common.{◌≡◌, ℕ, List, Option, Some, None, IfSome, subst}
use Rattle.cache_script.specs.Script.{ScriptSeen, IsScript}
use Rattle.cache_script.proofs.UniqueLemmas.{IsScript-unique}
use Rattle.cache_script.specs.Output.{IsScriptThat}

pub script_that : (P : ScriptSeen → Type 0) (bytes : List ℕ) (s : ScriptSeen) → IsScript bytes s → P s
    → IsScriptThat P bytes
script_that P bytes s is holds =
    record { script = s; is_script = is; holds = λ t it. subst P (IsScript-unique bytes s t is it) holds }

pub of_all : (o : Option (List ℕ)) (all : List ℕ) (P : List ℕ → Type 0)
    → IfSome o (λ bytes. all ≡ bytes) → P all → IfSome o P
of_all None all P h p = tt
of_all (Some bytes) all P h p = subst P h p

-- Which of several stored responses a cache uses for a request, as bytes.
use Rattle.std.specs.Prelude.{◌≡◌, ◌≢◌, ◌<◌, ◌⊎◌, ℕ, ℤ, List, length, take, drop, slice_get, slice_index, Option, Some, None, IsSomeAnd}
use Rattle.std.specs.List.{sum}
use Rattle.http_heads.specs.Texts.{request_text, response_text}
use Rattle.http_cache_semantics.specs.Messages.{RequestSeen}
use Rattle.http_cache_semantics.specs.Exchange.{Exchange}
use Rattle.http_cache_semantics.specs.Variants.{IsChoice}
use Rattle.http_cache_semantics.specs.declared.variants.Choice.{Choice}
use Rattle.http_cache_semantics.specs.declared.variants.Choice.TheVariants.{Fresh, Validate, Nothing}
use Rattle.http_cache_bytes.specs.declared.answer.Verdict.TheVariants as verdict
use Rattle.http_cache_bytes.specs.declared.choice.Chosen.{Chosen}
use Rattle.http_cache_bytes.specs.Cause.{ForRequest}
use Rattle.http_cache_bytes.specs.Form.{IsPolicyIn, IsNoForm}

-- the form at an index among consecutive forms with these lengths
unfoldable pub form_at : List ℕ → List ℕ → ℕ → List ℕ
form_at bytes lengths i = take (slice_index lengths i) (drop (sum (take i lengths)) bytes)

-- these are the policies of consecutive forms with these lengths
pub record ArePoliciesIn (bytes lengths : List ℕ) (es : List Exchange) : Type 0 where
  pub whole : sum lengths ≡ length bytes
  pub count : length es ≡ length lengths
  pub each : (i : ℕ) (e : Exchange) → slice_get es i ≡ Some e → IsPolicyIn (form_at bytes lengths i) e

-- the lengths don't add up to the length of the bytes, or one of the forms can't be read
abbrev pub AreNoPolicies : List ℕ → List ℕ → Type 0
AreNoPolicies bytes lengths =
    (sum lengths ≢ length bytes)
    ⊎ ((i : ℕ) × (i < length lengths) × IsNoForm (form_at bytes lengths i))

-- P holds of the policies in stored forms and the request in a head
abbrev pub ForVariants : List ℕ → List ℕ → List ℕ → (List Exchange → RequestSeen → Type 0) → Type 0
ForVariants bytes lengths request P =
    (es : List Exchange) × ArePoliciesIn bytes lengths es × ForRequest request (λ asked. P es asked)

-- the index, the verdict and the head that a choice sends
abbrev pub IsSentByChoice : Choice → Option Chosen → Type 0
IsSentByChoice (Fresh index parts) chosen = IsSomeAnd chosen (λ c.
    (c.index ≡ index) × (c.answer.verdict ≡ verdict.Fresh) × (c.answer.head.items ≡ response_text parts))
IsSentByChoice (Validate index sent) chosen = IsSomeAnd chosen (λ c.
    (c.index ≡ index) × (c.answer.verdict ≡ verdict.Validate) × (c.answer.head.items ≡ request_text sent))
IsSentByChoice Nothing chosen = chosen ≡ None

pub record IsChosenFor (es : List Exchange) (asked : RequestSeen) (now : ℤ) (chosen : Option Chosen)
    : Type 0 where
  pub choice : Choice
  pub is_choice : IsChoice es asked now choice
  pub sent : IsSentByChoice choice chosen

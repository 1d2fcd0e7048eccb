-- Which row of the table of lifetimes decides.
use Rattle.std.proofs.Common.{◌≡◌, ℕ, ◌*◌, Bool, true, false, ◌&&◌, List, [], ◌∷◌, ◌++◌}
use Rattle.std.proofs.Common.{Option, Some, None, is_some, option_map, unwrap_or, if◌then◌else◌, refl, sym, ap, ◌∙◌}
use Rattle.std.specs.Option.{option_or}
use Rattle.http_cache_fields.specs.Number.{number}
use Rattle.http_cache_rules.specs.DeltaSeconds.{said_by_number, said_by_value, seconds_in}
use Rattle.http_cache_rules.specs.Exchange.{Exchange, stored_directives}
use Rattle.http_cache_rules.specs.Lifetimes as table
use Rattle.http_cache_rules.specs.FirstRow.{first_said}
use Rattle.http_cache_rules.specs.Freshness.{Sourced, zero_sources, seconds_sources, date_sources}
use Rattle.http_cache_rules.specs.Freshness.{floor_source, freshness}
use Rattle.http_cache_rules.proofs.FirstRowLemmas.{first_said-append}
use Rattle.http_cache_rules.specs.declared.freshness.LifetimeSource.{LifetimeSource}

module _ (e : Exchange) where
  by_groups : freshness e
      ≡ unwrap_or
      (option_or (option_or (first_said (zero_sources e)) (first_said (seconds_sources e)))
      (first_said (date_sources e)))
      (floor_source (stored_directives e) e.options)
  unfolding freshness
  by_groups =
      ap (λ (o : Option Sourced). unwrap_or o (floor_source (stored_directives e) e.options))
      (first_said-append (zero_sources e ++ seconds_sources e) (date_sources e)
      ∙ ap (λ (o : Option Sourced). option_or o (first_said (date_sources e)))
      (first_said-append (zero_sources e) (seconds_sources e)))

  abbrev by_group : Option Sourced → Option Sourced → Option Sourced → Sourced
  by_group zero seconds dates =
      unwrap_or (option_or (option_or zero seconds) dates) (floor_source (stored_directives e) e.options)

  pub freshness-zero : (found : Sourced) → Some found ≡ first_said (zero_sources e) → found ≡ freshness e
  freshness-zero found zero =
      ap (λ (o : Option Sourced). by_group o (first_said (seconds_sources e)) (first_said (date_sources e))) zero
      ∙ sym by_groups

  pub freshness-seconds : (found : Sourced) → None ≡ first_said (zero_sources e)
      → Some found ≡ first_said (seconds_sources e) → found ≡ freshness e
  freshness-seconds found zero seconds =
      (λ i. by_group (zero i) (seconds i) (first_said (date_sources e))) ∙ sym by_groups

  pub freshness-dates : (found : Sourced) → None ≡ first_said (zero_sources e)
      → None ≡ first_said (seconds_sources e)
      → found ≡ unwrap_or (first_said (date_sources e)) (floor_source (stored_directives e) e.options)
      → found ≡ freshness e
  freshness-dates found zero seconds dates =
      dates ∙ (λ i. by_group (zero i) (seconds i) (first_said (date_sources e))) ∙ sym by_groups

abbrev pub nanos : ℕ → ℕ
nanos seconds = seconds * 1_000_000_000

abbrev pub timed : LifetimeSource → ℕ → Sourced
timed source seconds = (source, nanos seconds)

abbrev pub given_by : LifetimeSource → Option (Option (List ℕ)) → Option Sourced
given_by source said = option_map (timed source) (seconds_in (said_by_value said))

abbrev row_of : LifetimeSource → Bool → Option (Option (List ℕ)) → Bool × Sourced
row_of source heeded said =
    (heeded && is_some (unwrap_or said None), (source, table.seconds_in (unwrap_or said None)))

first_said-number : (source : LifetimeSource) (n : Option ℕ)
    → option_map (timed source) (seconds_in (said_by_number n)) ≡ Some (timed source (unwrap_or n 0))
first_said-number source None = refl
first_said-number source (Some n) = refl

first_said-heeded : (source : LifetimeSource) (heeded : Bool) (said : Option (Option (List ℕ)))
    (rows : List (Bool × Sourced))
    → option_or (if heeded then given_by source said else None) (first_said rows)
    ≡ first_said (row_of source heeded said ∷ rows)
first_said-heeded source false said rows = refl
first_said-heeded source true None rows = refl
first_said-heeded source true (Some None) rows = refl
first_said-heeded source true (Some (Some text)) rows =
    ap (λ o. option_or o (first_said rows)) (first_said-number source (number text))

first_said-last : (o : Option Sourced) → option_or o None ≡ o
first_said-last None = refl
first_said-last (Some x) = refl

-- the first of two directives that the cache heeds, and that has a value, decides
pub first_said-seconds : (shared_source source : LifetimeSource) (shared : Bool)
    (shared_age age : Option (Option (List ℕ)))
    → option_or (if shared then given_by shared_source shared_age else None) (given_by source age)
    ≡ first_said (row_of shared_source shared shared_age ∷ row_of source true age ∷ [])
first_said-seconds shared_source source shared shared_age age =
    ap (option_or (if shared then given_by shared_source shared_age else None))
    (sym (first_said-last (given_by source age)) ∙ first_said-heeded source true age [])
    ∙ first_said-heeded shared_source shared shared_age (row_of source true age ∷ [])

pub map-or : {A B : Type 0} (f : A → B) (a b : Option A)
    → option_map f (option_or a b) ≡ option_or (option_map f a) (option_map f b)
map-or f None b = refl
map-or f (Some x) b = refl

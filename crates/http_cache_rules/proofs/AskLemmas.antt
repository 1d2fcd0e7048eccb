-- What a request asks, piece by piece.
use Rattle.std.proofs.Common.{◌≡◌, ℕ, Bool, true, false, cond, ◌||◌, true≢false}
use Rattle.std.proofs.Common.{List, [], ◌∷◌, ◌++◌, codes, length, Option, Some, None}
use Rattle.std.proofs.Common.{option_map, refl, sym, ap, ◌∙◌, bytes_eq, nat_lt}
use Rattle.std.specs.Option.{option_or}
use Rattle.std.specs.List.{list_any, find}
use Rattle.std.proofs.lemmas.List.Folds.{find-append, list_any-append}
use Rattle.http_cache_fields.specs.Directives.{name_of, unquoted_value_of, directives}
use Rattle.http_cache_rules.specs.DeltaSeconds.{said_by_value, said_by_pieces, delta_seconds_under, is_said}
use Rattle.http_cache_rules.specs.Asks.{requested_by, requested_by_pieces}
use Rattle.http_cache_fields.proofs.FirstPieceLemmas.{value_under-first_piece, named-by_directive}
use Rattle.http_cache_rules.proofs.DeltaSecondsLemmas.{said-by_value}

abbrev first_said : Option (List ℕ) → Rattle.http_cache_rules.specs.declared.delta_seconds.DeltaSeconds.DeltaSeconds
first_said o = said_by_value (option_map unquoted_value_of o)

module _ (n : List ℕ) (ps : List (List ℕ)) (p : List ℕ) where
  next : said_by_pieces n (ps ++ p ∷ [])
      ≡ first_said (option_or (find (λ q. bytes_eq n (name_of q)) ps) (cond (bytes_eq n (name_of p)) (Some p) None))
  next = ap first_said (find-append (λ q. bytes_eq n (name_of q)) ps (p ∷ []))

  -- a value that is known isn't changed by a later piece
  pub said-kept : is_said (said_by_pieces n ps) ≡ true → said_by_pieces n ps ≡ said_by_pieces n (ps ++ p ∷ [])
  said-kept h = by (find (λ q. bytes_eq n (name_of q)) ps) (bytes_eq n (name_of p)) h ∙ sym next
    where
      by : (o : Option (List ℕ)) (b : Bool) → is_said (first_said o) ≡ true
          → first_said o ≡ first_said (option_or o (cond b (Some p) None))
      by None b e = absurd (true≢false (sym e))
      by (Some q) b e = refl

  -- a piece of another name changes nothing
  pub said-other : bytes_eq n (name_of p) ≡ false → said_by_pieces n ps ≡ said_by_pieces n (ps ++ p ∷ [])
  said-other h = by (find (λ q. bytes_eq n (name_of q)) ps) (bytes_eq n (name_of p)) h ∙ sym next
    where
      by : (o : Option (List ℕ)) (b : Bool) → b ≡ false
          → first_said o ≡ first_said (option_or o (cond b (Some p) None))
      by None true e = absurd (true≢false e)
      by None false e = refl
      by (Some q) b e = refl

  -- the first piece of a name decides
  pub said-first : is_said (said_by_pieces n ps) ≡ false → bytes_eq n (name_of p) ≡ true
      → said_by_value (Some (unquoted_value_of p)) ≡ said_by_pieces n (ps ++ p ∷ [])
  said-first new h = by (find (λ q. bytes_eq n (name_of q)) ps) (bytes_eq n (name_of p)) new h ∙ sym next
    where
      by : (o : Option (List ℕ)) (b : Bool) → is_said (first_said o) ≡ false → b ≡ true
          → said_by_value (Some (unquoted_value_of p)) ≡ first_said (option_or o (cond b (Some p) None))
      by None true e k = refl
      by None false e k = absurd (true≢false (sym k))
      by (Some q) b e k = absurd (true≢false (sym (said-by_value (Some (unquoted_value_of q))) ∙ e))

pub named-next : (n : List ℕ) (ps : List (List ℕ)) (p : List ℕ)
    → list_any (λ q. bytes_eq n (name_of q)) (ps ++ p ∷ [])
    ≡ (list_any (λ q. bytes_eq n (name_of q)) ps || bytes_eq n (name_of p))
named-next n ps p =
    list_any-append (λ q. bytes_eq n (name_of q)) ps (p ∷ [])
    ∙ ap (λ b. list_any (λ q. bytes_eq n (name_of q)) ps || b) (or_false (bytes_eq n (name_of p)))
  where
    or_false : (b : Bool) → (b || false) ≡ b
    or_false true = refl
    or_false false = refl

-- the first piece of a name says what its directive says
pub said-by_directive : (ps : List (List ℕ)) (n : List ℕ) → nat_lt 0 (length n) ≡ true
    → bytes_eq n (codes "must-revalidate") ≡ false → said_by_pieces n ps ≡ delta_seconds_under (directives ps) n
said-by_directive ps n named other = ap said_by_value (sym (value_under-first_piece ps n named other))

pub asked-by_directives : (ps : List (List ℕ)) → requested_by_pieces ps ≡ requested_by (directives ps)
asked-by_directives ps = λ i. record {
  no_cache = named-by_directive ps (codes "no-cache") refl refl i;
  max_age = said-by_directive ps (codes "max-age") refl refl i;
  min_fresh = said-by_directive ps (codes "min-fresh") refl refl i;
  max_stale = said-by_directive ps (codes "max-stale") refl refl i;
  stale_if_error = said-by_directive ps (codes "stale-if-error") refl refl i;
}

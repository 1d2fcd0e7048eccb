-- One more piece is read as one more directive.
use Rattle.std.proofs.Common.{◌≡◌, ℕ, Bool, true, false, cond, List, [], ◌∷◌, ◌++◌, Option, Some, None}
use Rattle.std.proofs.Common.{refl, sym, ap, ◌∙◌}
use Rattle.std.proofs.lemmas.List.{append-nil}
use Rattle.http_cache_fields.specs.Directives.{name_of, raw_value_of, directive_of, has_name, value_under}
use Rattle.http_cache_fields.specs.Directives.{first_directives, has_conflict}
use Rattle.http_cache_fields.specs.ReadMore.{read_of, read_beside, read_more}
use Rattle.http_cache_fields.proofs.ReadLemmas.{HasRead-none, HasRead-new, HasRead-again, set_directive-new}
use Rattle.http_cache_fields.proofs.FirstPieceLemmas.{Says, Says-all}

pub read_of-push : (ps : List (List ℕ)) (p : List ℕ) → read_of (ps ++ p ∷ [])
    ≡ read_beside (read_of ps) (name_of p) (raw_value_of p) (value_under (first_directives ps) (name_of p))
read_of-push ps p = by (value_under (first_directives ps) (name_of p)) refl
  where
    so_far : Says ps
    so_far = Says-all [] ps HasRead-none

    by : (o : Option (Option (List ℕ))) → value_under (first_directives ps) (name_of p) ≡ o
        → read_of (ps ++ p ∷ []) ≡ read_beside (read_of ps) (name_of p) (raw_value_of p) o
    by None e =
        let more = HasRead-new ps (first_directives ps) (has_conflict ps) p so_far e in
        let listed = sym more.listed ∙ set_directive-new (first_directives ps) (directive_of p) e in
        λ i. record { first = listed i; conflict = sym more.clash i }
    by (Some v) e =
        let more = HasRead-again ps (first_directives ps) (has_conflict ps) p v so_far e in
        λ i. record { first = sym more.listed i; conflict = sym more.clash i }

pub read_of-more : (ps : List (List ℕ)) (p : List ℕ) → read_of (ps ++ cond (has_name p) (p ∷ []) [])
    ≡ read_more (read_of ps) (name_of p) (raw_value_of p)
read_of-more ps p = by (has_name p)
  where
    by : (b : Bool) → read_of (ps ++ cond b (p ∷ []) [])
        ≡ cond b (read_beside (read_of ps) (name_of p) (raw_value_of p)
        (value_under (first_directives ps) (name_of p))) (read_of ps)
    by true = read_of-push ps p
    by false = ap read_of (append-nil ps)

-- Each directive is found at its index, after a conflict or a Pragma adds one.
use Rattle.std.proofs.Common.{◌≡◌, ℕ, Bool, true, false, ◌||◌, List, None, codes, refl, sym, ap, ◌∙◌}
use Rattle.std.proofs.Common.{filter, length, is_some, nat_lt, bytes_eq, slice_index_or}
use Rattle.http_cache_fields.specs.Directives.{has, has_name, first_directives, has_conflict}
use Rattle.http_cache_rules.specs.DeltaSeconds.{said_by_value}
use Rattle.http_cache_rules.specs.KnownDirectives.{asked_names, index_of}
use Rattle.http_cache_rules.proofs.StoredDirectivesLemmas.{found-other, found-no_cache, found-must_revalidate}
use Rattle.http_cache_rules.proofs.KnownDirectivesLemmas.{is_some-copied}
use Rattle.http_cache_rules.proofs.stored_directives.found_in.Goals as goal
use Rattle.http_cache_rules.proofs.stored_directives.found_in.Goals.{then-no_cache, else-no_cache, then-conflict, else-conflict}

pub returns : goal.returns
returns c = λ pieces known.
    let ps = filter has_name pieces in
    let ds = first_directives ps in
    let asked = c.args.asked in
    let said = c.args.no_cache in
    let conflict = has_conflict ps in
    let clash = known.clash in
    let left = found-other said conflict ds in
    let there = λ (n : List ℕ) (inside : nat_lt (index_of n) (length asked_names) ≡ true).
    is_some-copied (slice_index_or asked (index_of n) None) ∙ ap is_some (known.under n inside) in
    let no_cache : c.if-no_cache.result ≡ (said || has ds (codes "no-cache")) =
    elim c.if-no_cache.branch [
      | then-no_cache w ↦ w.result-is ∙ w.if-no_cache.true
          ∙ ap (λ (b : Bool). b || has ds (codes "no-cache")) (sym w.if-no_cache.true)
      | else-no_cache w ↦ w.result-is ∙ w.is_some-else-no_cache.ensures ∙ there (codes "no-cache") refl
          ∙ ap (λ (b : Bool). b || has ds (codes "no-cache")) (sym w.if-no_cache.false)
    ] in
    let must_revalidate : c.if-conflict.result ≡ (conflict || has ds (codes "must-revalidate")) =
    elim c.if-conflict.branch [
      | then-conflict w ↦ w.result-is ∙ w.if-conflict.true
          ∙ ap (λ (b : Bool). b || has ds (codes "must-revalidate")) (sym w.if-conflict.true ∙ clash)
      | else-conflict w ↦ w.result-is ∙ w.is_some-else-conflict.ensures ∙ there (codes "must-revalidate") refl
          ∙ ap (λ (b : Bool). b || has ds (codes "must-revalidate")) (sym w.if-conflict.false ∙ clash)
    ] in
    let has_left = λ (n : List ℕ) (inside : nat_lt (index_of n) (length asked_names) ≡ true) (e : bytes_eq n (codes "no-cache") ≡ false)
    (f : bytes_eq n (codes "must-revalidate") ≡ false). there n inside ∙ ap is_some (sym (left n e f)) in
    let said_left = λ (n : List ℕ) (inside : nat_lt (index_of n) (length asked_names) ≡ true) (e : bytes_eq n (codes "no-cache") ≡ false)
    (f : bytes_eq n (codes "must-revalidate") ≡ false). ap said_by_value (known.under n inside ∙ sym (left n e f)) in
    λ i. record {
      no_store = (c.is_some.ensures ∙ has_left (codes "no-store") refl refl refl) i;
      no_cache = (no_cache ∙ sym (found-no_cache said conflict ds)) i;
      private = (c.is_some-2.ensures ∙ has_left (codes "private") refl refl refl) i;
      public = (c.is_some-3.ensures ∙ has_left (codes "public") refl refl refl) i;
      must_revalidate = (must_revalidate ∙ sym (found-must_revalidate said conflict ds)) i;
      proxy_revalidate = (c.is_some-4.ensures ∙ has_left (codes "proxy-revalidate") refl refl refl) i;
      immutable = (c.is_some-5.ensures ∙ has_left (codes "immutable") refl refl refl) i;
      s_maxage = (c.delta_seconds.ensures ∙ said_left (codes "s-maxage") refl refl refl) i;
      max_age = (c.delta_seconds-2.ensures ∙ said_left (codes "max-age") refl refl refl) i;
      stale_while_revalidate =
          (c.delta_seconds-3.ensures ∙ said_left (codes "stale-while-revalidate") refl refl refl) i;
      stale_if_error = (c.delta_seconds-4.ensures ∙ said_left (codes "stale-if-error") refl refl refl) i;
    }

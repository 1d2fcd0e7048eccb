-- What follows from a choice among stored exchanges.
use Rattle.std.proofs.Common.{◌≡◌, ◌⊎◌, inl, inr, ℕ, ℤ, ◌+◌, ◌&&◌, List, []}
use Rattle.std.proofs.Common.{◌∷◌, Bool, true, false, true≢false, Option, Some, None}
use Rattle.std.proofs.Common.{option_map, find, refl, sym, ap, subst, ◌∙◌, slice_get}
use Rattle.std.proofs.Common.{not, is_some, is_none}
use Rattle.std.specs.Prelude.{IsSomeAnd}
use Rattle.std.specs.Option.{option_or}
use Rattle.std.proofs.lemmas.Bool.{and_parts}
use Rattle.http_cache_rules.specs.Asks.{asks_of}
use Rattle.http.specs.declared.request.Parts.{Parts as RequestParts}
use Rattle.http.specs.declared.response.Parts.{Parts as ResponseParts}
use Rattle.http_cache_policy.specs.Messages.{RequestSeen}
use Rattle.http_cache_policy.specs.Exchange.{Exchange}
use Rattle.http_cache_policy.specs.Match.{request_matches}
use Rattle.http_cache_policy.specs.Verdict.{satisfies, is_fresh_for}
use Rattle.http_cache_policy.specs.Explain.{explanation}
use Rattle.http_cache_policy.specs.Fresh.{IsFreshParts}
use Rattle.http_cache_policy.specs.Stale.{IsStaleRequest}
use Rattle.http_cache_policy.specs.declared.before.BeforeRequest.{BeforeRequest}
use Rattle.http_cache_policy.specs.declared.before.BeforeRequest.TheVariants.{Fresh as FreshAnswer, Stale}
use Rattle.http_cache_policy.specs.Run.{IsAnswer}
use Rattle.http_cache_semantics.specs.Variants.{fresh_index, matching_index, chosen_index}
use Rattle.http_cache_semantics.specs.Variants.{IsAtIndex, IsChoice, IsPassedOver, one_further}
use Rattle.http_cache_semantics.specs.Variants.{choice_of, matching, Kind, used, validated}
use Rattle.http_cache_semantics.specs.Variants.{nothing, kind_of, exchange_chosen, IsSameChoice}
use Rattle.http_cache_semantics.specs.Variants.{target_index, explained_index, target_missed, explanation_among}
use Rattle.http_cache_semantics.specs.declared.variants.Choice.{Choice}
use Rattle.http_cache_semantics.specs.declared.variants.Choice.TheVariants.{Fresh, Validate, Nothing}
use Rattle.http_cache_semantics.proofs.IndexLemmas.{at_index, position-passes}
use Rattle.http_cache_semantics.proofs.IndexLemmas.{position-fails, position-here}
use Rattle.http_cache_semantics.proofs.IndexLemmas.{position-further, one_further-Some}
use Rattle.http_cache_semantics.proofs.IndexLemmas.{one_further-None, slice_get-further}
use Rattle.http_cache_semantics.proofs.IndexLemmas.{find-at, find-none, find-filter}

pub fresh-matches : (e : Exchange) (request : RequestSeen) (now : ℤ)
    → is_fresh_for e request now ≡ true → request_matches e request ≡ true
unfolding is_fresh_for
fresh-matches e request now fresh =
    (and_parts (request_matches e request) (satisfies e (asks_of request.headers) now) fresh).0

pub unmatched-stale : (e : Exchange) (request : RequestSeen) (now : ℤ)
    → request_matches e request ≡ false → is_fresh_for e request now ≡ false
unfolding is_fresh_for
unmatched-stale e request now unmatched = ap (λ (b : Bool). b && satisfies e (asks_of request.headers) now) unmatched

first_or_second : (o p : Option ℕ) (i : ℕ) → option_or o p ≡ Some i → (o ≡ Some i) ⊎ ((o ≡ None) × (p ≡ Some i))
first_or_second (Some j) p i is = inl is
first_or_second None p i is = inr (refl, is)

pub chosen-fresh : (request : RequestSeen) (now : ℤ) (es : List Exchange) (index : ℕ) (e : Exchange)
    → chosen_index request now es ≡ Some index → slice_get es index ≡ Some e → is_fresh_for e request now ≡ true
    → fresh_index request now es ≡ Some index
chosen-fresh request now es index e chosen at fresh =
    elim (first_or_second (fresh_index request now es) (matching_index request es) index chosen) [
      | inl is ↦ is
      | inr is ↦ absurd (true≢false (sym fresh ∙ position-fails (λ e. is_fresh_for e request now) es index e is.0 at))
    ]

pub chosen-stale : (request : RequestSeen) (now : ℤ) (es : List Exchange) (index : ℕ) (e : Exchange)
    → chosen_index request now es ≡ Some index → slice_get es index ≡ Some e → is_fresh_for e request now ≡ false
    → (fresh_index request now es ≡ None) × (matching_index request es ≡ Some index)
chosen-stale request now es index e chosen at stale =
    elim (first_or_second (fresh_index request now es) (matching_index request es) index chosen) [
      | inl is ↦ absurd (true≢false (sym (position-passes (λ e. is_fresh_for e request now) es index e is at) ∙ stale))
      | inr is ↦ is
    ]

none_fresh : (request : RequestSeen) (now : ℤ) (es : List Exchange) (o : Option ℕ) → fresh_index request now es ≡ o
    → matching_index request es ≡ None → fresh_index request now es ≡ None
none_fresh request now es (Some index) is unmatched =
    let found = find-at (λ e. is_fresh_for e request now) es index is in
    let e = found.0 in
    let fresh = position-passes (λ e. is_fresh_for e request now) es index e is found.2 in
    let fails = position-fails (λ e. request_matches e request) es index e unmatched found.2 in
    absurd (true≢false (sym (fresh-matches e request now fresh) ∙ fails))
none_fresh request now es None is unmatched = is

pub none-chosen : (request : RequestSeen) (now : ℤ) (es : List Exchange)
    → matching_index request es ≡ None → chosen_index request now es ≡ None
none-chosen request now es unmatched =
    rw (none_fresh request now es (fresh_index request now es) refl unmatched) unmatched

both_none : (o p : Option ℕ) → option_or o p ≡ None → (o ≡ None) × (p ≡ None)
both_none (Some j) p is = cc
both_none None p is = (refl, is)

pub unchosen : (request : RequestSeen) (now : ℤ) (es : List Exchange)
    → chosen_index request now es ≡ None → IsChoice es request now Nothing
unchosen request now es none = both_none (fresh_index request now es) (matching_index request es) none

pub fresh-is : (request : RequestSeen) (now : ℤ) (es : List Exchange) (index : ℕ) (e : Exchange) (parts : ResponseParts)
    → chosen_index request now es ≡ Some index → slice_get es index ≡ Some e → is_fresh_for e request now ≡ true
    → IsFreshParts e now parts → IsChoice es request now (Fresh index parts)
fresh-is request now es index e parts chosen at fresh is = (
  chosen-fresh request now es index e chosen at fresh,
  at_index (λ e. IsFreshParts e now parts) es index e at is,
)

pub stale-is : (request : RequestSeen) (now : ℤ) (es : List Exchange) (index : ℕ) (e : Exchange) (sent : RequestParts)
    → chosen_index request now es ≡ Some index → slice_get es index ≡ Some e → is_fresh_for e request now ≡ false
    → IsStaleRequest e request sent → IsChoice es request now (Validate index sent)
stale-is request now es index e sent chosen at stale is =
    let indices = chosen-stale request now es index e chosen at stale in
    (indices.0, indices.1, at_index (λ e. IsStaleRequest e request sent) es index e at is)

pub stale-matches : (request : RequestSeen) (now : ℤ) (es : List Exchange) (index : ℕ) (e : Exchange)
    → chosen_index request now es ≡ Some index → slice_get es index ≡ Some e → is_fresh_for e request now ≡ false
    → request_matches e request ≡ true
stale-matches request now es index e chosen at stale =
    position-passes (λ e. request_matches e request) es index e
    (chosen-stale request now es index e chosen at stale).1 at

pub unmatched-unchosen : (request : RequestSeen) (now : ℤ) (es : List Exchange) (index : ℕ)
    → chosen_index request now es ≡ Some index → matching_index request es ≡ None → ⊥
unmatched-unchosen request now es index chosen unmatched = let no = none-chosen request now es unmatched in cc

-- ---- one more exchange

fresh_index-further : (e : Exchange) (es : List Exchange) (request : RequestSeen) (now : ℤ)
    → request_matches e request ≡ false
    → fresh_index request now (e ∷ es) ≡ option_map (λ n. n + 1) (fresh_index request now es)
fresh_index-further e es request now unmatched =
    position-further (λ e. is_fresh_for e request now) e es (unmatched-stale e request now unmatched)

matching_index-further : (e : Exchange) (es : List Exchange) (request : RequestSeen) → request_matches e request ≡ false
    → matching_index request (e ∷ es) ≡ option_map (λ n. n + 1) (matching_index request es)
matching_index-further e es request unmatched = position-further (λ e. request_matches e request) e es unmatched

at_further : (P : Exchange → Type 0) (e : Exchange) (es : List Exchange) (i : ℕ)
    → IsAtIndex es i P → IsAtIndex (e ∷ es) (i + 1) P
at_further P e es i at = subst (λ (o : Option Exchange). IsSomeAnd o P) (sym (slice_get-further e es i)) at

at_nearer : (P : Exchange → Type 0) (e : Exchange) (es : List Exchange) (i j : ℕ) → i ≡ j + 1
    → IsAtIndex (e ∷ es) i P → IsAtIndex es j P
at_nearer P e es i j is at =
    subst (λ (o : Option Exchange). IsSomeAnd o P)
    (ap (slice_get (e ∷ es)) is ∙ slice_get-further e es j) at

one_further-is : (e : Exchange) (es : List Exchange) (request : RequestSeen) (now : ℤ)
    → request_matches e request ≡ false
    → (choice : Choice) → IsChoice es request now choice → IsChoice (e ∷ es) request now (one_further choice)
one_further-is e es request now unmatched (Fresh index parts) is = (
  fresh_index-further e es request now unmatched ∙ ap (option_map (λ n. n + 1)) is.0,
  at_further _ e es index is.1,
)
one_further-is e es request now unmatched (Validate index sent) is = (
  fresh_index-further e es request now unmatched ∙ ap (option_map (λ n. n + 1)) is.0,
  matching_index-further e es request unmatched ∙ ap (option_map (λ n. n + 1)) is.1,
  at_further _ e es index is.2,
)
one_further-is e es request now unmatched Nothing is = (
  fresh_index-further e es request now unmatched ∙ ap (option_map (λ n. n + 1)) is.0,
  matching_index-further e es request unmatched ∙ ap (option_map (λ n. n + 1)) is.1,
)

one_further-only : (e : Exchange) (es : List Exchange) (request : RequestSeen) (now : ℤ)
    → request_matches e request ≡ false
    → (choice : Choice) → IsChoice (e ∷ es) request now choice
    → (before : Choice) × IsChoice es request now before × (choice ≡ one_further before)
one_further-only e es request now unmatched (Fresh index parts) is =
    let nearer =
    one_further-Some (fresh_index request now es) index
    (sym (fresh_index-further e es request now unmatched) ∙ is.0) in (
      Fresh nearer.0 parts,
      (nearer.1, at_nearer _ e es index nearer.0 nearer.2 is.1),
      ap (λ (n : ℕ). Fresh n parts) nearer.2,
    )
one_further-only e es request now unmatched (Validate index sent) is =
    let stale =
    one_further-None (fresh_index request now es)
    (sym (fresh_index-further e es request now unmatched) ∙ is.0) in
    let nearer =
    one_further-Some (matching_index request es) index
    (sym (matching_index-further e es request unmatched) ∙ is.1) in (
      Validate nearer.0 sent,
      (stale, nearer.1, at_nearer _ e es index nearer.0 nearer.2 is.2),
      ap (λ (n : ℕ). Validate n sent) nearer.2,
    )
one_further-only e es request now unmatched Nothing is =
    let stale =
    one_further-None (fresh_index request now es)
    (sym (fresh_index-further e es request now unmatched) ∙ is.0) in
    let away =
    one_further-None (matching_index request es)
    (sym (matching_index-further e es request unmatched) ∙ is.1) in
    (Nothing, (stale, away), refl)

pub passed_over : (e : Exchange) (es : List Exchange) → IsPassedOver e es (e ∷ es)
passed_over e es = record {
  further = λ request now unmatched choice is. one_further-is e es request now unmatched choice is;
  no_other = λ request now unmatched choice is. one_further-only e es request now unmatched choice is;
}

-- ---- a single exchange

pub alone-is : (e : Exchange) (request : RequestSeen) (now : ℤ) (answer : BeforeRequest) → IsAnswer e request now answer
    → IsChoice (e ∷ []) request now (choice_of answer)
alone-is e request now (FreshAnswer parts) is =
    (position-here (λ e. is_fresh_for e request now) e [] is.verdict, is.fresh)
alone-is e request now (Stale sent true) is = (
  position-further (λ e. is_fresh_for e request now) e [] is.verdict,
  position-here (λ e. request_matches e request) e [] (sym is.matches),
  is.stale,
)
alone-is e request now (Stale sent false) is = (
  position-further (λ e. is_fresh_for e request now) e [] is.verdict,
  position-further (λ e. request_matches e request) e [] (sym is.matches),
)

-- ---- another order

abbrev fresh_one : RequestSeen → ℤ → List Exchange → Option Exchange
fresh_one request now es = find (λ e. is_fresh_for e request now) es

abbrev matching_one : RequestSeen → List Exchange → Option Exchange
matching_one request es = find (λ e. request_matches e request) es

kind_by : Option Exchange → Option Exchange → Kind
kind_by (Some e) o = used
kind_by None (Some e) = validated
kind_by None None = nothing

record IsByFirst (fresh matched : Option Exchange) (kind : Kind) (chosen : Option Exchange) : Type 0 where
  kind_is : kind ≡ kind_by fresh matched
  chosen_is : chosen ≡ option_or fresh matched

by_first : (es : List Exchange) (request : RequestSeen) (now : ℤ) (choice : Choice) → IsChoice es request now choice
    → IsByFirst (fresh_one request now es) (matching_one request es) (kind_of choice) (exchange_chosen es choice)
unfolding kind_by
by_first es request now (Fresh index parts) is =
    let found = find-at (λ e. is_fresh_for e request now) es index is.0 in
    rw found.1 (record { kind_is = refl; chosen_is = found.2 })
by_first es request now (Validate index sent) is =
    let stale = find-none (λ e. is_fresh_for e request now) es is.0 in
    let found = find-at (λ e. request_matches e request) es index is.1 in
    rw (stale, found.1) (record { kind_is = refl; chosen_is = found.2 })
by_first es request now Nothing is =
    let stale = find-none (λ e. is_fresh_for e request now) es is.0 in
    let away = find-none (λ e. request_matches e request) es is.1 in
    rw (stale, away) (record { kind_is = refl; chosen_is = refl })

pub same_choice : (es : List Exchange) (request : RequestSeen) (now : ℤ) (choice : Choice)
    → IsChoice es request now choice
    → (fs : List Exchange) → matching request fs ≡ matching request es
    → (other : Choice) → IsChoice fs request now other → IsSameChoice es choice fs other
same_choice es request now choice is fs same other other_is =
    let fits : Exchange → Bool = λ e. request_matches e request in
    let is_fresh : Exchange → Bool = λ e. is_fresh_for e request now in
    let implied : (e : Exchange) → is_fresh e ≡ true → fits e ≡ true = λ e. fresh-matches e request now in
    let fresh : fresh_one request now fs ≡ fresh_one request now es =
    sym (find-filter fits is_fresh implied fs) ∙ ap (find is_fresh) same ∙ find-filter fits is_fresh implied es in
    let matched : matching_one request fs ≡ matching_one request es =
    sym (find-filter fits fits (λ e h. h) fs) ∙ ap (find fits) same ∙ find-filter fits fits (λ e h. h) es in
    let one = by_first es request now choice is in
    let two = by_first fs request now other other_is in
    record {
      kind = two.kind_is ∙ ap (λ (o : Option Exchange). kind_by o (matching_one request fs)) fresh
          ∙ ap (kind_by (fresh_one request now es)) matched ∙ sym one.kind_is;
      exchange = two.chosen_is ∙ ap (λ (o : Option Exchange). option_or o (matching_one request fs)) fresh
          ∙ ap (option_or (fresh_one request now es)) matched ∙ sym one.chosen_is;
    }

-- ---- the exchange that is explained

chosen-matches : (request : RequestSeen) (now : ℤ) (es : List Exchange) (index : ℕ) (e : Exchange)
    → chosen_index request now es ≡ Some index → slice_get es index ≡ Some e → request_matches e request ≡ true
chosen-matches request now es index e chosen at =
    elim (first_or_second (fresh_index request now es) (matching_index request es) index chosen) [
      | inl is ↦ fresh-matches e request now (position-passes (λ e. is_fresh_for e request now) es index e is at)
      | inr is ↦ position-passes (λ e. request_matches e request) es index e is.1 at
    ]

pub explained-is : (request : RequestSeen) (now : ℤ) (es : List Exchange) (index : ℕ) (e : Exchange)
    → explained_index request now es ≡ Some index → slice_get es index ≡ Some e
    → explanation e request now ≡ explanation_among es request now
unfolding explanation_among
explained-is request now es index e explained at = rw (explained, at) refl

-- the explanation is a hit exactly if some exchange may be used
pub explained-hit : (request : RequestSeen) (now : ℤ) (es : List Exchange) (index : ℕ) (e : Exchange)
    → explained_index request now es ≡ Some index → slice_get es index ≡ Some e
    → is_fresh_for e request now ≡ is_some (fresh_index request now es)
explained-hit request now es index e explained at = by (fresh_index request now es) refl
  where
    by : (o : Option ℕ) → fresh_index request now es ≡ o → is_fresh_for e request now ≡ is_some o
    by (Some i) is =
        let named = target_index request es in
        let same : Some i ≡ Some index =
        subst (λ (o : Option ℕ). option_or (option_or o (matching_index request es)) named ≡ Some index) is explained in
        position-passes (λ e. is_fresh_for e request now) es index e (is ∙ same) at
    by None is = position-fails (λ e. is_fresh_for e request now) es index e is at

-- it is no mismatch exactly if an exchange is chosen
pub explained-mismatch : (request : RequestSeen) (now : ℤ) (es : List Exchange) (index : ℕ) (e : Exchange)
    → explained_index request now es ≡ Some index → slice_get es index ≡ Some e
    → not (request_matches e request) ≡ is_none (chosen_index request now es)
explained-mismatch request now es index e explained at = by (chosen_index request now es) refl
  where
    by : (o : Option ℕ) → chosen_index request now es ≡ o → not (request_matches e request) ≡ is_none o
    by (Some i) is =
        let same : Some i ≡ Some index =
        subst (λ (o : Option ℕ). option_or o (target_index request es) ≡ Some index) is explained in
        ap not (chosen-matches request now es index e (is ∙ same) at)
    by None is = ap not (position-fails (λ e. request_matches e request) es index e (unchosen request now es is).1 at)

-- if none is explained, none is chosen, and nothing is stored for the target
pub unexplained : (request : RequestSeen) (now : ℤ) (es : List Exchange) → explained_index request now es ≡ None
    → (fresh_index request now es ≡ None) × (chosen_index request now es ≡ None)
    × (target_missed ≡ explanation_among es request now)
unfolding explanation_among
unexplained request now es none =
    let chosen = (both_none (chosen_index request now es) (target_index request es) none).0 in
    ((unchosen request now es chosen).0, chosen, rw none refl)

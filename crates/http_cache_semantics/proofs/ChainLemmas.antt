-- How a chain of caches is built, one cache at a time.
use Rattle.std.proofs.Common.{◌≡◌, ◌<◌, ◌≤◌, ◌+◌, ◌-◌, ℕ, ℤ, true, false, List}
use Rattle.std.proofs.Common.{[], ◌∷◌, ◌++◌, map, drop, Some, slice_get, get_or, suc}
use Rattle.std.proofs.Common.{length, refl, sym, ap, subst, ◌∙◌, inl, inr, true≢false}
use Rattle.std.proofs.Common.{append_assoc, arith, length-append, length-drop, drop-cons}
use Rattle.std.proofs.lemmas.List.{drop-map, nil_from_length, length-map}
use Rattle.std.proofs.Math.Seq.{get_or-append_seam}
use Rattle.jiff.specs.declared.timestamp.Timestamp.{Timestamp}
use Rattle.http_cache_rules.specs.Options.{Options}
use Rattle.http_cache_policy.specs.Messages.{RequestSeen, ResponseSeen}
use Rattle.http_cache_policy.specs.Exchange.{Exchange}
use Rattle.http_cache_policy.specs.Kept.{kept_exchange}
use Rattle.http_cache_policy.specs.Verdict.{is_fresh_for}
use Rattle.http_cache_policy.specs.Refused.{RefusesAnswer, HasUndatedAnswer}
use Rattle.http_cache_semantics.specs.Chain.{first_kept, IsHandedOn, Follow, IsChain, IsFor, Meets, nanoseconds}
use Rattle.http_cache_semantics.specs.ChainLaws.{IsAt, ForEach, NeverGoDown, HasReceived}
use Rattle.http_cache_semantics.specs.ChainLaws.{IsAgedLike, IsExplicit, SaysLike, ExpiresLike}
use Rattle.http_cache_semantics.proofs.ChainUniqueLemmas.{handed_on-unique}
use Rattle.http_cache_semantics.proofs.ChainAgeLemmas.{received-along_chain, ages-along_chain}
use Rattle.http_cache_semantics.proofs.ChainLifeLemmas.{says-along_chain, expires-along_chain}

IsFor-handed_on : (request : RequestSeen) (options : Options) (e : Exchange) (now : ℤ) (next : Exchange)
    → IsHandedOn e now next → IsFor request options e → IsFor request options next
unfolding kept_exchange
IsFor-handed_on request options e now next handed same = record {
  same_target = ap (λ (x : Exchange). x.target) handed.is_kept ∙ same.same_target;
  same_method = ap (λ (x : Exchange). x.method) handed.is_kept ∙ same.same_method;
  same_headers = ap (λ (x : Exchange). x.request_headers) handed.is_kept ∙ same.same_headers;
  same_options = ap (λ (x : Exchange). x.options) handed.is_kept ∙ same.same_options;
}

pub IsFor-first : (request : RequestSeen) (response : ResponseSeen) (options : Options) (received : ℤ)
    → IsFor request options (first_kept request response options received)
unfolding kept_exchange
IsFor-first request response options received =
    record { same_target = refl; same_method = refl; same_headers = refl; same_options = refl }

-- the exchanges so far, the last of them, and what still follows it
pub record HasReached
    (request : RequestSeen) (first : Exchange) (moments rest : List ℤ) (reached : List Exchange) : Type 0 where
  pub front : List Exchange
  pub last : Exchange
  pub are : reached ≡ front ++ last ∷ []
  pub is_for : IsFor request first.options last
  pub goes_on : (behind : List Exchange) → Follow request last rest behind
      → IsChain request first moments (reached ++ behind)
  pub refused : Meets RefusesAnswer request last rest → Meets RefusesAnswer request first moments
  pub undated : Meets HasUndatedAnswer request last rest → Meets HasUndatedAnswer request first moments
  pub refused_later : Meets RefusesAnswer request first moments → Meets RefusesAnswer request last rest
  pub undated_later : Meets HasUndatedAnswer request first moments → Meets HasUndatedAnswer request last rest

no_more : (reached : List Exchange) → reached ++ [] ≡ reached
no_more [] = refl
no_more (e ∷ es) = ap (λ xs. e ∷ xs) (no_more es)

module _ (request : RequestSeen) (first : Exchange) (moments : List ℤ) where
  pub reached-first : IsFor request first.options first → HasReached request first moments moments (first ∷ [])
  reached-first is_for = record {
    front = [];
    last = first;
    are = refl;
    is_for = is_for;
    goes_on = λ behind follow. record { behind = behind; are = refl; follow = follow };
    refused = λ met. met;
    undated = λ met. met;
    refused_later = λ met. met;
    undated_later = λ met. met;
  }

  pub reached-some : (rest : List ℤ) (reached : List Exchange)
      → HasReached request first moments rest reached → 0 < length reached
  reached-some rest reached so_far = omega (arith, ap length so_far.are, length-append so_far.front (so_far.last ∷ []))

  pub reached-last : (rest : List ℤ) (reached : List Exchange)
      → (so_far : HasReached request first moments rest reached)
      → (n : ℕ) (e : Exchange) → n ≡ length reached → e ≡ get_or reached (n - 1) e → e ≡ so_far.last
  reached-last rest reached so_far n e count is =
      let index : n - 1 ≡ length so_far.front =
      omega (arith, count, ap length so_far.are, length-append so_far.front (so_far.last ∷ [])) in
      is ∙ (λ i. get_or (so_far.are i) (index i) e) ∙ get_or-append_seam so_far.front so_far.last [] e

  -- if nothing follows the last exchange, the chain is complete
  whole : (rest : List ℤ) (reached : List Exchange) → (so_far : HasReached request first moments rest reached)
      → Follow request so_far.last rest [] → IsChain request first moments reached
  whole rest reached so_far ends = subst (IsChain request first moments) (no_more reached) (so_far.goes_on [] ends)

  -- ---- what holds of each cache

  first-in : (exchanges : List Exchange) → IsChain request first moments exchanges
      → (e : Exchange) → IsAt exchanges 0 e → first ≡ e
  first-in exchanges chain e at =
      let head : slice_get (first ∷ chain.behind) 0 ≡ Some e =
      ap (λ es. slice_get es 0) (sym chain.are) ∙ at in
      cc

  module _ (exchanges : List Exchange) (chain : IsChain request first moments exchanges) where
    -- what the first exchange and each index satisfy holds of the list
    from-first : (P : Exchange → ℕ → Exchange → Type 0)
        → ((index : ℕ) (e : Exchange) → IsAt exchanges index e → P first index e) → ForEach exchanges P
    from-first P each one at index e there =
        subst (λ (x : Exchange). P x index e) (first-in exchanges chain one at) (each index e there)

    pub each-received : ForEach exchanges (HasReceived moments)
    each-received = from-first (HasReceived moments) (received-along_chain request first moments exchanges chain)

    pub each-aged : NeverGoDown first.response_time moments → ForEach exchanges IsAgedLike
    each-aged order = from-first IsAgedLike (ages-along_chain request first moments exchanges chain order)

    pub each-says : kept_exchange first ≡ first → ForEach exchanges (λ one index e. IsExplicit one → SaysLike one e)
    each-says settled =
        from-first (λ one index e. IsExplicit one → SaysLike one e)
        (λ index e there explicit.
        says-along_chain request first moments exchanges chain settled explicit index e there)

    pub each-expires : kept_exchange first ≡ first → NeverGoDown first.response_time moments
        → ForEach exchanges (λ one index e. IsExplicit one → ExpiresLike one index e)
    each-expires settled order =
        from-first (λ one index e. IsExplicit one → ExpiresLike one index e)
        (λ index e there explicit.
        expires-along_chain request first moments exchanges chain settled explicit order index e there)

-- ---- the times

drop-nanoseconds : (moments : List Timestamp) (index : ℕ) (m : Timestamp)
    → index < length moments → m ≡ get_or moments index m
    → drop index (nanoseconds moments) ≡ m.nanosecond ∷ drop (index + 1) (nanoseconds moments)
drop-nanoseconds moments index m inside is =
    let f = λ (t : Timestamp). t.nanosecond in
    let up : suc index ≡ index + 1 = omega arith in
    drop-map f index moments
    ∙ ap (map f) (drop-cons moments index m inside)
    ∙ (λ i. f (sym is i) ∷ sym (drop-map f (suc index) moments) i)
    ∙ ap (λ n. m.nanosecond ∷ drop n (nanoseconds moments)) up

drop-nanoseconds_past : (moments : List Timestamp) (index : ℕ)
    → length moments ≤ index → drop index (nanoseconds moments) ≡ []
drop-nanoseconds_past moments index past =
    nil_from_length (drop index (nanoseconds moments))
    (omega (arith, length-drop index (nanoseconds moments), length-map moments (λ (t : Timestamp). t.nanosecond)))

-- an error after a cache that returns its answer is a later cache's
later : (P : Exchange → RequestSeen → ℤ → Type 0) (request : RequestSeen) (e : Exchange) (now : ℤ)
    (moments : List ℤ) (next : Exchange)
    → ¬ (P e request now) → IsHandedOn e now next → Meets P request e (now ∷ moments) → Meets P request next moments
later P request e now moments next none handed (inl here) = absurd (none here)
later P request e now moments next none handed (inr (other, met, on, more)) =
    subst (λ (x : Exchange). Meets P request x moments) (handed_on-unique e now other next on handed) more

-- a cache without a fresh answer is the last that can return an error
nowhere : (P : Exchange → RequestSeen → ℤ → Type 0) (request : RequestSeen) (e : Exchange) (now : ℤ) (moments : List ℤ)
    → ¬ (P e request now) → is_fresh_for e request now ≡ false → ¬ (Meets P request e (now ∷ moments))
nowhere P request e now moments none stale (inl here) = none here
nowhere P request e now moments none stale (inr (next, met, on, more)) = true≢false (sym met ∙ stale)

-- ---- a turn: the request asks the last cache, which keeps e, at time m

module _ (request : RequestSeen) (first : Exchange) (moments : List Timestamp) (index : ℕ) (m : Timestamp)
    (inside : index < length moments) (here : m ≡ get_or moments index m) (reached : List Exchange)
    (so_far : HasReached request first (nanoseconds moments) (drop index (nanoseconds moments)) reached)
    (n : ℕ) (count : n ≡ length reached) (e : Exchange) (is : e ≡ get_or reached (n - 1) e) where
  abbrev now : ℤ
  now = m.nanosecond

  abbrev rest : List ℤ
  rest = drop (index + 1) (nanoseconds moments)

  before : HasReached request first (nanoseconds moments) (now ∷ rest) reached
  before =
      subst (λ (ms : List ℤ). HasReached request first (nanoseconds moments) ms reached)
      (drop-nanoseconds moments index m inside here) so_far

  last-is : e ≡ before.last
  last-is = reached-last request first (nanoseconds moments) (now ∷ rest) reached before n e count is

  pub turn-refused : RefusesAnswer e request now → Meets RefusesAnswer request first (nanoseconds moments)
  turn-refused cause = before.refused (inl (subst (λ (x : Exchange). RefusesAnswer x request now) last-is cause))

  pub turn-undated : HasUndatedAnswer e request now → Meets HasUndatedAnswer request first (nanoseconds moments)
  turn-undated cause = before.undated (inl (subst (λ (x : Exchange). HasUndatedAnswer x request now) last-is cause))

  stale-last : is_fresh_for e request now ≡ false → is_fresh_for before.last request now ≡ false
  stale-last stale = subst (λ (x : Exchange). is_fresh_for x request now ≡ false) last-is stale

  pub turn-stops : is_fresh_for e request now ≡ false → IsChain request first (nanoseconds moments) reached
  turn-stops stale = whole request first (nanoseconds moments) (now ∷ rest) reached before (stale-last stale)

  has_room : ¬ (RefusesAnswer e request now) → ¬ (RefusesAnswer before.last request now)
  has_room none = subst (λ (x : Exchange). ¬ (RefusesAnswer x request now)) last-is none

  has_date : ¬ (HasUndatedAnswer e request now) → ¬ (HasUndatedAnswer before.last request now)
  has_date none = subst (λ (x : Exchange). ¬ (HasUndatedAnswer x request now)) last-is none

  pub turn-stops_unrefused : is_fresh_for e request now ≡ false → ¬ (RefusesAnswer e request now)
      → ¬ (Meets RefusesAnswer request first (nanoseconds moments))
  turn-stops_unrefused stale none = λ met.
      nowhere RefusesAnswer request before.last now rest (has_room none) (stale-last stale)
      (before.refused_later met)

  pub turn-stops_dated : is_fresh_for e request now ≡ false → ¬ (HasUndatedAnswer e request now)
      → ¬ (Meets HasUndatedAnswer request first (nanoseconds moments))
  turn-stops_dated stale none = λ met.
      nowhere HasUndatedAnswer request before.last now rest (has_date none) (stale-last stale)
      (before.undated_later met)

  pub turn-next : (next : Exchange) → is_fresh_for e request now ≡ true → IsHandedOn e now next
      → ¬ (RefusesAnswer e request now) → ¬ (HasUndatedAnswer e request now)
      → HasReached request first (nanoseconds moments) rest (reached ++ next ∷ [])
  turn-next next fresh handed room dated =
      let met = subst (λ (x : Exchange). is_fresh_for x request now ≡ true) last-is fresh in
      let on = subst (λ (x : Exchange). IsHandedOn x now next) last-is handed in
      record {
        front = reached;
        last = next;
        are = refl;
        is_for = IsFor-handed_on request first.options before.last now next on before.is_for;
        goes_on = λ behind follow.
            subst (IsChain request first (nanoseconds moments)) (sym (append_assoc reached (next ∷ []) behind))
            (before.goes_on (next ∷ behind) (met, on, follow));
        refused = λ more. before.refused (inr (next, met, on, more));
        undated = λ more. before.undated (inr (next, met, on, more));
        refused_later = λ more.
            later RefusesAnswer request before.last now rest next (has_room room) on (before.refused_later more);
        undated_later = λ more.
            later HasUndatedAnswer request before.last now rest next (has_date dated) on (before.undated_later more);
      }

pub turns-end : (request : RequestSeen) (first : Exchange) (moments : List Timestamp) (index : ℕ)
    → length moments ≤ index → (reached : List Exchange)
    → HasReached request first (nanoseconds moments) (drop index (nanoseconds moments)) reached
    → IsChain request first (nanoseconds moments) reached
turns-end request first moments index past reached so_far =
    whole request first (nanoseconds moments) [] reached
    (subst (λ (ms : List ℤ). HasReached request first (nanoseconds moments) ms reached)
    (drop-nanoseconds_past moments index past) so_far) refl

pub turns-end_unrefused : (request : RequestSeen) (first : Exchange) (moments : List Timestamp) (index : ℕ)
    → length moments ≤ index → (reached : List Exchange)
    → HasReached request first (nanoseconds moments) (drop index (nanoseconds moments)) reached
    → ¬ (Meets RefusesAnswer request first (nanoseconds moments))
turns-end_unrefused request first moments index past reached so_far = λ met.
    subst (λ (ms : List ℤ). Meets RefusesAnswer request so_far.last ms)
    (drop-nanoseconds_past moments index past) (so_far.refused_later met)

pub turns-end_dated : (request : RequestSeen) (first : Exchange) (moments : List Timestamp) (index : ℕ)
    → length moments ≤ index → (reached : List Exchange)
    → HasReached request first (nanoseconds moments) (drop index (nanoseconds moments)) reached
    → ¬ (Meets HasUndatedAnswer request first (nanoseconds moments))
turns-end_dated request first moments index past reached so_far = λ met.
    subst (λ (ms : List ℤ). Meets HasUndatedAnswer request so_far.last ms)
    (drop-nanoseconds_past moments index past) (so_far.undated_later met)

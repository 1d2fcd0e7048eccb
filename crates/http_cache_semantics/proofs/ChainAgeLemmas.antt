-- Ages along a chain of caches.
use Rattle.std.proofs.Common.{◌≡◌, ◌≤◌, ◌≤ℤ◌, ◌-ℤ◌, ◌+◌, ◌-◌, ◌*◌, ◌/◌, ◌^◌, min, ℕ, ℤ, List, []}
use Rattle.std.proofs.Common.{◌∷◌, length, take, slice_get, zero, suc, sym, ap, subst, ◌∙◌, arith}
use Rattle.std.specs.Duration.{max_nanos}
use Rattle.std.proofs.lemmas.Int.{ints}
use Rattle.std.proofs.lemmas.Option.{slice_get_within}
use Rattle.http_cache_rules.specs.Dates.{elapsed_time}
use Rattle.http_cache_policy.specs.Messages.{RequestSeen}
use Rattle.http_cache_policy.specs.Exchange.{Exchange}
use Rattle.http_cache_policy.specs.Kept.{kept_exchange}
use Rattle.http_cache_policy.specs.Age.{received_age, age_at}
use Rattle.http_cache_semantics.specs.Chain.{IsHandedOn, Follow, IsChain}
use Rattle.http_cache_semantics.specs.ChainLaws.{IsAt, NeverGoDown, whole_seconds, HasReceived, IsAgedLike}
use Rattle.http_cache_policy.proofs.AgeLemmas.{elapsed-is}
use Rattle.http_cache_semantics.proofs.HopLemmas.{received_age-bound, received_age-handed_on}

-- the fresh headers were received at the time
response_time-handed_on : (e : Exchange) (now : ℤ) (next : Exchange) → IsHandedOn e now next → next.response_time ≡ now
unfolding kept_exchange
response_time-handed_on e now next handed = ap (λ (x : Exchange). x.response_time) handed.is_kept

elapsed-through : (a b c : ℤ) → a ≤ℤ b → b ≤ℤ c → elapsed_time (c -ℤ a) ≡ elapsed_time (b -ℤ a) + elapsed_time (c -ℤ b)
elapsed-through a b c h k = omega (arith, ints, elapsed-is (c -ℤ a), elapsed-is (b -ℤ a), elapsed-is (c -ℤ b))

-- r seconds and d nanoseconds before the next cache received the response
no_older_by : (r d later : ℕ)
    → min (min (r + d / 1_000_000_000) (2 ^ 64 - 1) * 1_000_000_000 + later) max_nanos
    ≤ min (r * 1_000_000_000 + (d + later)) max_nanos
no_older_by r d later = omega arith

not_far_by : (r d later : ℕ)
    → min (r * 1_000_000_000 + (d + later)) max_nanos
    ≤ min (min (r + d / 1_000_000_000) (2 ^ 64 - 1) * 1_000_000_000 + later) max_nanos + 999_999_999
not_far_by r d later = omega arith

module _ (e : Exchange) (now : ℤ) (next : Exchange) (handed : IsHandedOn e now next)
    (before : e.response_time ≤ℤ now) (later : ℤ) (after : now ≤ℤ later) where
  age-here : age_at e later
      ≡ min (received_age e * 1_000_000_000
      + (elapsed_time (now -ℤ e.response_time) + elapsed_time (later -ℤ now))) max_nanos
  unfolding age_at
  age-here =
      ap (λ n. min (received_age e * 1_000_000_000 + n) max_nanos)
      (elapsed-through e.response_time now later before after)

  age-next : age_at next later
      ≡ min
      (min (received_age e + elapsed_time (now -ℤ e.response_time) / 1_000_000_000) (2 ^ 64 - 1) * 1_000_000_000
      + elapsed_time (later -ℤ now)) max_nanos
  unfolding age_at
  age-next =
      (λ i. min (received_age-handed_on e now next handed i * 1_000_000_000
      + elapsed_time (later -ℤ response_time-handed_on e now next handed i)) max_nanos)

  age-handed_on-le : age_at next later ≤ age_at e later
  age-handed_on-le =
      rw (age-here, age-next)
      (no_older_by (received_age e) (elapsed_time (now -ℤ e.response_time)) (elapsed_time (later -ℤ now)))

  -- less than a second is lost
  age-handed_on-near : age_at e later ≤ age_at next later + 999_999_999
  age-handed_on-near =
      rw (age-here, age-next)
      (not_far_by (received_age e) (elapsed_time (now -ℤ e.response_time)) (elapsed_time (later -ℤ now)))

stops_twice : (r s more : ℕ) → min (min (r + s) (2 ^ 64 - 1) + more) (2 ^ 64 - 1) ≡ min (r + (s + more)) (2 ^ 64 - 1)
stops_twice r s more = omega arith

le-trans : (a b c : ℤ) → a ≤ℤ b → b ≤ℤ c → a ≤ℤ c
le-trans a b c h k = omega (arith, ints)

le-refl : (a : ℤ) → a ≤ℤ a
le-refl a = omega (arith, ints)

-- an exchange that is reached is aged like the first, and was received no earlier
record IsReached (first : Exchange) (hops : ℕ) (e : Exchange) : Type 0 where
  aged : IsAgedLike first hops e
  no_earlier : first.response_time ≤ℤ e.response_time

reached-first : (e : Exchange) → IsReached e 0 e
reached-first e = record {
  aged = record { no_older = λ now after. omega arith; not_far_behind = λ now after. omega arith };
  no_earlier = le-refl e.response_time;
}

reached-next : (e next x : Exchange) (now : ℤ) (hops : ℕ) → e.response_time ≤ℤ now
    → IsHandedOn e now next → IsReached next hops x → IsReached e (suc hops) x
reached-next e next x now hops before handed rest =
    let no_earlier : now ≤ℤ x.response_time =
    subst (λ (m : ℤ). m ≤ℤ x.response_time) (response_time-handed_on e now next handed) rest.no_earlier in
    record {
      aged = record {
        no_older = λ later after.
            let since = le-trans now x.response_time later no_earlier after in
            let one = age-handed_on-le e now next handed before later since in
            omega (arith, rest.aged.no_older later after, one);
        not_far_behind = λ later after.
            let since = le-trans now x.response_time later no_earlier after in
            let one = age-handed_on-near e now next handed before later since in
            omega (arith, rest.aged.not_far_behind later after, one);
      };
      no_earlier = le-trans e.response_time now x.response_time before no_earlier;
    }

none-behind : (k : ℕ) (e x : Exchange) → IsAt (e ∷ []) (suc k) x → ⊥
none-behind k e x at = absurd (omega (arith, slice_get_within (e ∷ []) (suc k) x at))

module _ (request : RequestSeen) where
  follow-received : (e : Exchange) (moments : List ℤ) (behind : List Exchange) → Follow request e moments behind
      → (index : ℕ) (x : Exchange) → IsAt (e ∷ behind) index x → HasReceived moments e index x
  follow-received e moments behind chain zero x at =
      let same : e ≡ x = cc in
      subst (HasReceived moments e 0) same (omega (arith, received_age-bound e))
  follow-received e moments [] chain (suc index) x at = absurd (none-behind index e x at)
  follow-received e [] (next ∷ behind) chain (suc index) x at =
      let none = chain in
      absurd (omega (arith, ap length none))
  follow-received e (now ∷ moments) (next ∷ behind) chain (suc index) x at =
      follow-received next moments behind chain.2 index x at
      ∙ (λ i. min (received_age-handed_on e now next chain.1 i
      + whole_seconds (response_time-handed_on e now next chain.1 i) (take index moments)) (2 ^ 64 - 1))
      ∙ stops_twice (received_age e) (elapsed_time (now -ℤ e.response_time) / 1_000_000_000)
      (whole_seconds now (take index moments))

  follow-reached : (e : Exchange) (moments : List ℤ) (behind : List Exchange)
      → NeverGoDown e.response_time moments → Follow request e moments behind
      → (index : ℕ) (x : Exchange) → IsAt (e ∷ behind) index x → IsReached e index x
  follow-reached e moments behind order chain zero x at =
      let same : e ≡ x = cc in
      subst (IsReached e 0) same (reached-first e)
  follow-reached e moments [] order chain (suc index) x at = absurd (none-behind index e x at)
  follow-reached e [] (next ∷ behind) order chain (suc index) x at =
      let none = chain in
      absurd (omega (arith, ap length none))
  follow-reached e (now ∷ moments) (next ∷ behind) order chain (suc index) x at =
      let later : NeverGoDown next.response_time moments =
      subst (λ (m : ℤ). NeverGoDown m moments) (sym (response_time-handed_on e now next chain.1)) order.1 in
      reached-next e next x now index order.0 chain.1 (follow-reached next moments behind later chain.2 index x at)

  module _ (first : Exchange) (moments : List ℤ) (exchanges : List Exchange)
      (chain : IsChain request first moments exchanges) where
    there : (index : ℕ) (e : Exchange) → IsAt exchanges index e → IsAt (first ∷ chain.behind) index e
    there index e at = ap (λ es. slice_get es index) (sym chain.are) ∙ at

    -- each cache has received the first Age plus the whole seconds since
    pub received-along_chain : (index : ℕ) (e : Exchange) → IsAt exchanges index e → HasReceived moments first index e
    received-along_chain index e at = follow-received first moments chain.behind chain.follow index e (there index e at)

    pub ages-along_chain : NeverGoDown first.response_time moments
        → (index : ℕ) (e : Exchange) → IsAt exchanges index e → IsAgedLike first index e
    ages-along_chain order index e at =
        (follow-reached first moments chain.behind order chain.follow index e (there index e at)).aged

-- Bases that are counted are those that change, and costs without them.
use Rattle.std.proofs.Common.{arith, ◌≡◌, ◌∙◌, sym, ap, refl, zero, suc, ◌<◌, ℕ, ◌+◌, ◌-◌, ◌^◌, min, nat_lt, Bool, true, false, cond, List, [], ◌∷◌, ◌||◌, bytes_eq, codes, map, length}
use Rattle.std.specs.Prelude.{sum_by}
use Rattle.std.proofs.lemmas.Bool.{lt-ltb}
use Rattle.std.proofs.lemmas.List.Sums.{sum_by-cons}
use Rattle.std.specs.List.{flat_map}
use Rattle.http_cache_findings.specs.declared.counts.Counts.{Counts}
use Rattle.http_cache_findings.specs.Counts.{HoldsCounts, label_of, amount_under, total_in}
use Rattle.http_cache_findings.specs.Plain.{changing_seen, base_addition, is_base, is_counted, plain_recorded}
use Rattle.http_cache_findings.specs.Facts.{AreUrlCosts, ArePlainCosts}
use Rattle.http_cache_findings.specs.declared.cost.Known.{Known}
use Rattle.http_cache_findings.specs.declared.plain.Changing.{Changing}
use Rattle.http_cache_recording.specs.Entry.{RecordedSeen}
use Rattle.http_cache_semantics.specs.Options.{Options}
use Rattle.http_uri.specs.declared.uri.Uri.{Uri}

same-label : (a b : List ℕ) → bytes_eq (label_of (codes "changing") a) (label_of (codes "changing") b) ≡ bytes_eq a b
unfolding label_of
same-label a b = refl

no-more : (s : ℕ) → 0 + s ≡ s
no-more s = omega arith

one-more : (b : Bool) (s : ℕ) → nat_lt 0 (cond b 1 0 + s) ≡ (b || nat_lt 0 s)
one-more true s = lt-ltb 0 (1 + s) (omega arith)
one-more false s = ap (nat_lt 0) (no-more s)

any-counted : (cs : List (List ℕ × ℕ)) (base : List ℕ)
    → nat_lt 0 (sum_by (amount_under (label_of (codes "changing") base)) (flat_map base_addition cs)) ≡ is_base cs base
any-counted [] base = refl
any-counted (c ∷ cs) base =
    let amount = amount_under (label_of (codes "changing") base) in
    let rest = flat_map base_addition cs in
    ap (nat_lt 0) (sum_by-cons amount (label_of (codes "changing") c.0, 1) rest)
    ∙ ap (λ (b : Bool). nat_lt 0 (cond b 1 0 + sum_by amount rest)) (same-label c.0 base)
    ∙ (one-more (bytes_eq c.0 base) _ ∙ ap (λ (b : Bool). bytes_eq c.0 base || b) (any-counted cs base))

none : (most : ℕ) → min zero most ≡ zero
none most = omega arith

below : (s most : ℕ) → 0 < most → nat_lt 0 (min s most) ≡ nat_lt 0 s
below zero most positive = ap (nat_lt 0) (none most)
below (suc s) most positive =
    lt-ltb 0 (min (suc s) most) (omega (arith, positive)) ∙ sym (lt-ltb 0 (suc s) (omega arith))

pub counted-bases : (cs : List (List ℕ × ℕ)) (bases : Counts) → HoldsCounts (flat_map base_addition cs) bases
    → is_counted (total_in bases) ≡ is_base cs
counted-bases cs bases holds = λ i. λ base.
    (ap (nat_lt 0) (holds (label_of (codes "changing") base))
    ∙ (below _ (2 ^ 64 - 1) (omega arith) ∙ any-counted cs base)) i

pub plain-none : (rs : List RecordedSeen) (options : Options) (target : Uri) (known : List Known) (xs : List Changing) (c : Counts)
    → length xs ≡ 0 → ArePlainCosts rs options target known (map changing_seen xs) c
plain-none rs options target known [] c none = tt
plain-none rs options target known (x ∷ xs) c none = absurd (omega (arith, none))

pub plain-some : (rs : List RecordedSeen) (options : Options) (target : Uri) (known : List Known) (cs : List (List ℕ × ℕ)) (c : Counts)
    → AreUrlCosts (map (plain_recorded cs) rs) options target known c → ArePlainCosts rs options target known cs c
plain-some rs options target known [] c costs = tt
plain-some rs options target known (x ∷ cs) c costs = costs

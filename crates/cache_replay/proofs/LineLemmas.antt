-- Lines that are skipped.
use Rattle.std.proofs.Common.{◌≡◌, ◌≢◌, ℕ, ◌-◌, ◌+◌, ◌&&◌, true, false, true≢false}
use Rattle.std.proofs.Common.{All, List, [], ◌∷◌, length, get_or, Option, Some, None}
use Rattle.std.proofs.Common.{lt-ltb, sym, ap, ap₂, subst, ◌∙◌, arith, take_all, eq-eqb}
use Rattle.std.proofs.lemmas.List.Elements.{All-nil, All-more}
use Rattle.std.specs.Io.{StopsAt}
use Rattle.std.specs.Io.KnownBytes.{Consumes}
use Rattle.std.specs.Io.BufRead.{ends_with_byte, drop_through, DropsThrough}
use Rattle.std.proofs.BufReadLemmas.{drop_through-append}

none_fed : (bytes : List ℕ) → StopsAt bytes 10 → ends_with_byte 10 bytes ≡ false → All (λ b. b ≢ 10) bytes
none_fed [] stops e = All-nil (λ b. b ≢ 10)
none_fed (b ∷ bytes) stops e =
    let all = b ∷ bytes in
    let fed : get_or all (length all - 1) 0 ≡ 10 → ends_with_byte 10 all ≡ true =
    λ is. ap₂ (λ p q. p && q) (lt-ltb 0 (length all) (omega arith)) (eq-eqb _ 10 is) in
    let last : get_or all (length all - 1) 0 ≢ 10 = λ is. true≢false (sym (fed is) ∙ e) in
    subst (All (λ x. x ≢ 10)) (take_all (length all - 1 + 1) all (omega arith))
    (All-more (λ x. x ≢ 10) all (length all - 1) 0 (omega arith) stops last)

-- the bytes read without a line feed, and those skipped after them, are one line
pub passed_over : (old mid new : Option (List ℕ)) (bytes : List ℕ) → Consumes old mid bytes → StopsAt bytes 10
    → ends_with_byte 10 bytes ≡ false → DropsThrough mid new 10 → DropsThrough old new 10
passed_over None mid new bytes taken stops ends skipped = tt
passed_over (Some xs) None new bytes taken stops ends skipped = absurd taken
passed_over (Some xs) (Some ys) new bytes taken stops ends skipped =
    let behind = drop_through-append 10 bytes ys (none_fed bytes stops ends) in
    skipped ∙ ap Some (sym (ap (drop_through 10) taken ∙ behind))

-- A tally of the lines so far, and of one more.
use Rattle.std.proofs.Common.{◌≡◌, ◌≢◌, ℕ, ◌+◌, ◌-◌, ◌^◌, ◌<◌, min, List, [], ◌∷◌, ◌++◌}
use Rattle.std.proofs.Common.{Option, Some, None, IfSome, refl, sym, ap, ◌∙◌, subst, arith}
use Rattle.std.proofs.lemmas.List.Sums.{sum_by-append}
use Rattle.std.specs.Io.BufRead.{first_piece, drop_through, DropsThrough}
use Rattle.http_cache_json.proofs.ZipLemmas.{zip_push}
use Rattle.cache_replay.specs.declared.run.Tally.{Tally}
use Rattle.cache_replay.specs.declared.run.LineVerdict.{LineVerdict}
use Rattle.cache_replay.specs.declared.run.LineVerdict.TheVariants.{Agrees, Differs, Unreadable, Answered}
use Rattle.cache_replay.specs.Lines.{AreFirstLines}
use Rattle.cache_replay.specs.Verdicts.{HasVerdict, agreeing, differing, IsTallyTo}

-- if the bytes are known, the bytes that were read have the tally
abbrev pub HasTally : Option (List ℕ) → Option (List ℕ) → Tally → Type 0
HasTally None rest tally = Unit {0}
HasTally (Some bytes) None tally = ⊥
HasTally (Some bytes) (Some rest) tally = IsTallyTo bytes rest tally

pub no_lines : (known : Option (List ℕ)) (tally : Tally)
    → tally.agree ≡ 0 → tally.differ ≡ 0 → HasTally known known tally
no_lines None tally a d = tt
no_lines (Some bytes) tally a d =
    record { lines = []; read = refl; verdicts = []; each = tt; agree = a; differ = d }

one_more_line : (bytes : List ℕ) (lines : List (List ℕ)) (rest : List ℕ)
    → AreFirstLines bytes lines rest → rest ≢ []
    → AreFirstLines bytes (lines ++ first_piece 10 rest ∷ []) (drop_through 10 rest)
one_more_line bytes [] rest read some =
    (λ none. some (sym read ∙ none), ap (first_piece 10) (sym read), ap (drop_through 10) read)
one_more_line bytes (line ∷ lines) rest read some =
    (read.0, read.1, one_more_line (drop_through 10 bytes) lines rest read.2 some)

pub one_at_most : (v : LineVerdict) → agreeing v + differing v < 2
one_at_most Agrees = omega arith
one_at_most Differs = omega arith
one_at_most Unreadable = omega arith
one_at_most Answered = omega arith

pub next_tally : (known before after : Option (List ℕ)) (v : LineVerdict) (old new : Tally)
    → HasTally known before old
    → IfSome before (λ rest. (rest ≢ []) × HasVerdict (first_piece 10 rest) v) → DropsThrough before after 10
    → old.agree + old.differ < 2 ^ 64 - 2
    → new.agree ≡ min (old.agree + agreeing v) (2 ^ 64 - 1)
    → new.differ ≡ min (old.differ + differing v) (2 ^ 64 - 1)
    → HasTally known after new
next_tally None before after v old new so_far verdict dropped few a d = tt
next_tally (Some bytes) None after v old new so_far verdict dropped few a d = absurd so_far
next_tally (Some bytes) (Some rest) after v old new so_far verdict dropped few a d =
    let one = one_at_most v in
    subst (λ (left : Option (List ℕ)). HasTally (Some bytes) left new) (sym dropped)
    (record {
      lines = so_far.lines ++ first_piece 10 rest ∷ [];
      read = one_more_line bytes so_far.lines rest so_far.read verdict.0;
      verdicts = so_far.verdicts ++ v ∷ [];
      each = zip_push HasVerdict so_far.lines so_far.verdicts (first_piece 10 rest) v so_far.each verdict.1;
      agree = omega (arith, one, a, so_far.agree, few, sum_by-append agreeing so_far.verdicts (v ∷ []));
      differ = omega (arith, one, d, so_far.differ, few, sum_by-append differing so_far.verdicts (v ∷ []));
    })

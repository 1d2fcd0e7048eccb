-- A block taken off the front of some bytes.
use Rattle.std.proofs.Common.{◌≡◌, ℕ, suc, ◌+◌, ◌*◌, ◌/◌, ◌<◌, ◌≤◌, List, length, take, drop, sym, ap, ◌∙◌, arith, length-drop}
use Rattle.std.specs.List.{fold}
use Rattle.std.proofs.lemmas.List.{drop-drop}
use Rattle.http_cache_disk_store.specs.Sum.{Lanes, mixed, with_block, with_blocks, sum_of}

quotient_step : (bytes : List ℕ) → 32 ≤ length bytes → length bytes / 32 ≡ suc (length (drop 32 bytes) / 32)
quotient_step bytes long = omega (arith, length-drop 32 bytes)

pub blocks_step : (l : Lanes) (bytes : List ℕ) → 32 ≤ length bytes
    → with_blocks (length bytes / 32) l bytes
    ≡ with_blocks (length (drop 32 bytes) / 32) (with_block l (take 32 bytes)) (drop 32 bytes)
unfolding with_blocks
blocks_step l bytes long = ap (λ n. with_blocks n l bytes) (quotient_step bytes long)

pub blocks_end : (l : Lanes) (bytes : List ℕ) → length bytes < 32 → with_blocks (length bytes / 32) l bytes ≡ l
unfolding with_blocks
blocks_end l bytes short = let none : length bytes / 32 ≡ 0 = omega arith in ap (λ n. with_blocks n l bytes) none

pub rest_step : (bytes : List ℕ) → 32 ≤ length bytes
    → drop (length (drop 32 bytes) / 32 * 32) (drop 32 bytes) ≡ drop (length bytes / 32 * 32) bytes
rest_step bytes long =
    let more : 32 + length (drop 32 bytes) / 32 * 32 ≡ length bytes / 32 * 32 = omega (arith, quotient_step bytes long) in
    drop-drop (length (drop 32 bytes) / 32 * 32) 32 bytes ∙ ap (λ n. drop n bytes) more

pub rest_end : (bytes : List ℕ) → length bytes < 32 → drop (length bytes / 32 * 32) bytes ≡ bytes
rest_end bytes short = let none : length bytes / 32 * 32 ≡ 0 = omega arith in ap (λ n. drop n bytes) none

-- one block more is mixed
pub blocks_turn : (l m whole : Lanes) (rest block after : List ℕ) → block ≡ take 32 rest → after ≡ drop 32 rest → 32 ≤ length rest
    → m ≡ with_block l block → with_blocks (length rest / 32) l rest ≡ whole → with_blocks (length after / 32) m after ≡ whole
blocks_turn l m whole rest block after block_is after_is long mixed before =
    (λ i. with_blocks (length (after_is i) / 32) ((mixed ∙ ap (with_block l) block_is) i) (after_is i))
    ∙ sym (blocks_step l rest long) ∙ before

pub rest_turn : (whole rest after : List ℕ) → after ≡ drop 32 rest → 32 ≤ length rest
    → drop (length rest / 32 * 32) rest ≡ whole → drop (length after / 32 * 32) after ≡ whole
rest_turn whole rest after after_is long before =
    ap (λ bytes. drop (length bytes / 32 * 32) bytes) after_is ∙ rest_step rest long ∙ before

-- the last bytes and the length go into the first lane
pub whole_sum : (bytes rest : List ℕ) (l : Lanes) (a r : ℕ)
    → l ≡ with_blocks (length bytes / 32) (record { a = 1; b = 2; c = 3; d = 4 }) bytes
    → rest ≡ drop (length bytes / 32 * 32) bytes → r ≡ fold mixed l.a rest → a ≡ mixed r (length bytes)
    → record { a = a; b = l.b; c = l.c; d = l.d } ≡ sum_of bytes
unfolding sum_of
whole_sum bytes rest l a r l_is rest_is r_is a_is =
    (λ i. record {
      a = (a_is ∙ ap (λ x. mixed x (length bytes)) (r_is ∙ ap (fold mixed l.a) rest_is)) i;
      b = l.b;
      c = l.c;
      d = l.d;
    })
    ∙ ap (λ (m : Lanes). record m { a = mixed (fold mixed m.a (drop (length bytes / 32 * 32) bytes)) (length bytes) }) l_is

-- The sum of bytes, and what is seen of a body on a disc.
use Rattle.std.specs.Prelude.{zero, suc, ◌*◌, ◌/◌, ◌%◌, ◌^◌, ℕ, List, [], ◌∷◌, length, take, drop, bit_xor}
use Rattle.std.specs.List.{fold}
use Rattle.std.specs.Int.{w64, rotate_left, from_le_bytes}

-- one step of a lane, which is a bijection of the lane and of the word
unfoldable pub mixed : ℕ → ℕ → ℕ
mixed lane word = bit_xor (rotate_left w64 lane 5) word * 11400714819323198485 % 2 ^ 64

pub record Lanes : Type 0 where
  pub a : ℕ
  pub b : ℕ
  pub c : ℕ
  pub d : ℕ

abbrev pub word_at : List ℕ → ℕ → ℕ
word_at bytes at = from_le_bytes w64 (take 8 (drop at bytes))

-- a block of 32 bytes has a word for each lane
abbrev pub with_block : Lanes → List ℕ → Lanes
with_block l block = record {
  a = mixed l.a (word_at block 0);
  b = mixed l.b (word_at block 8);
  c = mixed l.c (word_at block 16);
  d = mixed l.d (word_at block 24);
}

-- so many blocks from the beginning
unfoldable pub with_blocks : ℕ → Lanes → List ℕ → Lanes
with_blocks zero l bytes = l
with_blocks (suc n) l bytes = with_blocks n (with_block l (take 32 bytes)) (drop 32 bytes)

-- the bytes after the last block and the length go into the first lane
unfoldable pub sum_of : List ℕ → Lanes
sum_of bytes =
    let l = with_blocks (length bytes / 32) (record { a = 1; b = 2; c = 3; d = 4 }) bytes in
    record l { a = mixed (fold mixed l.a (drop (length bytes / 32 * 32) bytes)) (length bytes) }

-- what is seen of a body: its length, and the four lanes of its sum
abbrev pub mark_text : ℕ → Lanes → List ℕ
mark_text size l = size ∷ l.a ∷ l.b ∷ l.c ∷ l.d ∷ []

unfoldable pub mark_seen : List ℕ → List ℕ
mark_seen body = mark_text (length body) (sum_of body)

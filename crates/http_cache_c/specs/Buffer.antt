-- What is written to a buffer.
use Rattle.std.specs.Prelude.{◌≡◌, ◌≤◌, ◌<◌, ℕ, ℤ, List, ◌++◌, length, drop}

-- the bytes are at the front of the buffer, and what follows them is unchanged
pub record IsWritten (bytes : List ℕ) (needed : ℕ) (old new : List ℕ) : Type 0 where
  pub needed_is : needed ≡ length bytes
  pub fits : length bytes ≤ length old
  pub written : new ≡ bytes ++ drop (length bytes) old

-- the buffer is shorter than the bytes, and their number is returned
abbrev pub LacksRoom : List ℕ → ℕ → List ℕ → Type 0
LacksRoom bytes needed old = (needed ≡ length bytes) × (length old < length bytes)

-- the call returned the code, and the bytes are written
pub record IsHanded (code : ℤ) (bytes : List ℕ) (result : ℤ) (needed : ℕ) (old new : List ℕ)
    : Type 0 where
  pub code_is : result ≡ code
  pub written : IsWritten bytes needed old new

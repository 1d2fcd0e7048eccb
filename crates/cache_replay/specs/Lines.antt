-- The lines of an input.
use Rattle.std.specs.Prelude.{◌≡◌, ◌≢◌, ℕ, List, [], ◌∷◌}
use Rattle.std.specs.Io.BufRead.{first_piece, drop_through}

-- the first lines of an input, and the rest of it
abbrev pub AreFirstLines : List ℕ → List (List ℕ) → List ℕ → Type 0
AreFirstLines bytes [] rest = bytes ≡ rest
AreFirstLines bytes (line ∷ lines) rest =
    (bytes ≢ []) × (line ≡ first_piece 10 bytes) × AreFirstLines (drop_through 10 bytes) lines rest

-- The first line feed and the line before it don't depend on later bytes.
use Rattle.std.proofs.Common.{arith, ◌≡◌, ◌≤◌, ◌<◌, ◌+◌, ◌-◌, ℕ, List, ◌++◌, Option, Some, None, IfSome, length, take, drop, true}
use Rattle.std.proofs.Common.{sym, ap, subst, ◌∙◌, length-append, take-append-drop}
use Rattle.std.proofs.lemmas.List.{length-take, length-take-le, take-take, take-append-le, get_or-take, get_or_append_left}
use Rattle.bytes.proofs.Ranges.{take-append_past}
use Rattle.std.specs.Prelude.{slice_index}
use Rattle.memchr.specs.Find.{IsFirst, IsFirstByte, is_byte}
use Rattle.http_cache_frames.specs.Front.{EndsAt, IsJson, IsLine}
use Rattle.http_cache_frames.specs.declared.front.Announced.{Announced}

-- what holds of all positions below the end holds of a first position
pub first-below : (P Q : ℕ → Type 0) (i j : ℕ) (r : Option ℕ) → IsFirst P i j r → ((k : ℕ) → k < j → Q k) → IfSome r Q
first-below P Q i j None first holds = tt
first-below P Q i j (Some k) first holds = holds k first.0.high

same_byte : (hay more : List ℕ) (k i : ℕ) → i ≤ k → k < length hay
    → slice_index (take (k + 1) hay ++ more) i ≡ slice_index hay i
same_byte hay more k i below within =
    let long = length-take-le (k + 1) hay (omega (arith, within)) in
    get_or_append_left (take (k + 1) hay) more 0 i (omega (arith, long, below))
    ∙ get_or-take (k + 1) hay i 0 (omega (arith, below))

-- the first position doesn't depend on what follows it
first_in_front : (hay more : List ℕ) (k : ℕ) → IsFirstByte (is_byte 10) hay (Some k)
    → IsFirstByte (is_byte 10) (take (k + 1) hay ++ more) (Some k)
first_in_front hay more k first =
    let within = first.0.high in
    let long = length-take-le (k + 1) hay (omega (arith, within)) in
    let both = length-append (take (k + 1) hay) more in (
      record {
        low = first.0.low;
        high = omega (arith, long, both);
        before = λ i low below passes. first.0.before i low below
            (subst (λ byte. is_byte 10 byte ≡ true) (same_byte hay more k i (omega (arith, below)) within) passes);
      },
      subst (λ byte. is_byte 10 byte ≡ true) (sym (same_byte hay more k k (omega (arith, within)) within)) first.1,
    )

-- all bytes of a line and its line feed are there, and they are at most 4,097
line_within : (bytes : List ℕ) (k : ℕ) → EndsAt bytes (Some k) → (k < length bytes) × (k < 4097)
line_within bytes k ends =
    let within = ends.0.high in
    let most = length-take 4097 bytes in
    let all = ap length (take-append-drop 4097 bytes) in
    let parts = length-append (take 4097 bytes) (drop 4097 bytes) in
    (omega (arith, within, all, parts), omega (arith, within, most))

ends_in_front : (bytes after : List ℕ) (k : ℕ) → EndsAt bytes (Some k) → EndsAt (take (k + 1) bytes ++ after) (Some k)
ends_in_front bytes after k ends =
    let (there, short) = line_within bytes k ends in
    let long = length-take-le (k + 1) bytes (omega (arith, there)) in
    let front = take (k + 1) bytes in
    let same : front ≡ take (k + 1) (take 4097 bytes) = sym (take-take (k + 1) 4097 bytes (omega (arith, short))) in
    let whole : take 4097 (front ++ after) ≡ front ++ take (4096 - k) after =
    take-append_past front after (4096 - k) 4097 (omega (arith, long, short)) in
    subst (λ hay. IsFirstByte (is_byte 10) hay (Some k))
    (sym (whole ∙ ap (λ l. l ++ take (4096 - k) after) same))
    (first_in_front (take 4097 bytes) (take (4096 - k) after) k ends)

pub line_in_front : (bytes after : List ℕ) (a : Announced) → IsLine bytes a → IsLine (take a.length bytes ++ after) a
line_in_front bytes after a line =
    let k = line.count in
    let (there, short) = line_within bytes k line.ends in
    let long = length-take-le (k + 1) bytes (omega (arith, there)) in
    let same : take k (take (k + 1) bytes ++ after) ≡ take k bytes =
    take-append-le k (take (k + 1) bytes) after (omega (arith, long)) ∙ take-take k (k + 1) bytes (omega (arith)) in
    subst (λ n. IsLine (take n bytes ++ after) a) (sym line.announced.length)
    record {
      count = k;
      said = line.said;
      ends = ends_in_front bytes after k line.ends;
      json = subst (λ l. IsJson l line.said) (sym same) line.json;
      announced = line.announced;
    }

pub line_there : (bytes : List ℕ) (a : Announced) → IsLine bytes a → a.length ≤ length bytes
line_there bytes a line =
    let (there, short) = line_within bytes line.count line.ends in
    let long = line.announced.length in
    omega (arith, there, long)

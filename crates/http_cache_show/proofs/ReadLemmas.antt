-- What a reader has left is known from its front.
use Rattle.std.proofs.Common.{◌≡◌, ◌<◌, ◌≤◌, ◌+◌, ◌∙◌, ◌++◌, ℕ, min, List, [], Option, Some, None, option_map, length, take, arith, ap, IfSome}
use Rattle.std.proofs.lemmas.List.{length-take, take_all}

-- what is left is longer than n if its front is
pub front-long : (known : Option (List ℕ)) (n m : ℕ) (all : List ℕ) → m ≡ n + 1
    → IfSome (option_map (take m) known) (λ bytes. all ≡ bytes) → n < length all → IfSome known (λ bytes. n < length bytes)
front-long None n m all next is long = tt
front-long (Some bytes) n m all next is long =
    let taken : length all ≡ min m (length bytes) = ap length is ∙ length-take m bytes in
    omega (arith, next, taken, long)

-- what is left is its front if that isn't longer than n
pub front-whole : (known : Option (List ℕ)) (n m : ℕ) (all : List ℕ) → m ≡ n + 1
    → IfSome (option_map (take m) known) (λ bytes. all ≡ bytes) → length all ≤ n → IfSome known (λ bytes. all ≡ bytes)
front-whole None n m all next is short = tt
front-whole (Some bytes) n m all next is short =
    let taken : length all ≡ min m (length bytes) = ap length is ∙ length-take m bytes in
    let within : length bytes ≤ m = omega (arith, next, taken, short) in
    is ∙ take_all m bytes within

-- if nothing was read before, what was read is the front
pub read-front : (known inner : Option (List ℕ)) (n limit : ℕ) (all start : List ℕ) → limit ≡ n → inner ≡ known
    → start ≡ [] → IfSome (option_map (take limit) inner) (λ bytes. all ≡ start ++ bytes)
    → IfSome (option_map (take n) known) (λ bytes. all ≡ bytes)
read-front known inner n limit all start same_limit same_reader nothing is =
    rw (← same_limit, ← same_reader) (rw nothing at is)

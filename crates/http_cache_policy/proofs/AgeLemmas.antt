-- How an age changes with time.
use Rattle.std.proofs.Common.{◌≡◌, ℤ, ◌-◌, ◌-ℤ◌, ◌≤◌, ◌≤ℤ◌, pos, negsuc, arith}
use Rattle.std.proofs.lemmas.Int.{ints}
use borrow.Author.Differences.{up, down}
use Rattle.http_cache_rules.specs.Dates.{elapsed_time}
use Rattle.http_cache_policy.specs.Exchange.{Exchange}
use Rattle.http_cache_policy.specs.Age.{age_at}

pub elapsed-is : (z : ℤ) → elapsed_time z ≡ up z - down z
elapsed-is (pos n) = omega arith
elapsed-is (negsuc n) = omega arith

pub elapsed_rises : (a b m : ℤ) → a ≤ℤ b → elapsed_time (a -ℤ m) ≤ elapsed_time (b -ℤ m)
elapsed_rises a b m h = omega (arith, ints, elapsed-is (a -ℤ m), elapsed-is (b -ℤ m))

pub age_at-rises : (e : Exchange) (a b : ℤ) → a ≤ℤ b → age_at e a ≤ age_at e b
unfolding age_at
age_at-rises e a b h = let l = elapsed_rises a b e.response_time h in omega arith

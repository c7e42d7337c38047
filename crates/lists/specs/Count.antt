-- Sums and counts over the numbers below n. Assumes nothing.
use Rattle.std.specs.Prelude.{Bool, true, false, ℕ, zero, suc, ◌+◌}

-- 1 where a test passes, and 0 where it fails
abbrev pub one_if : Bool → ℕ
one_if true = 1
one_if false = 0

-- the sum of f at the numbers below n
abbrev pub sum_below : ℕ → (ℕ → ℕ) → ℕ
sum_below zero f = 0
sum_below (suc n) f = sum_below n f + f n

-- how many of the numbers below n pass f, counted one by one
abbrev pub count_below : ℕ → (ℕ → Bool) → ℕ
count_below n f = sum_below n (λ k. one_if (f k))

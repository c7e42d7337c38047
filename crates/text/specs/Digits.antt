-- Numbers as text. Assumes nothing.
use Rattle.std.specs.Prelude.{cond, List, [], ◌∷◌, ◌++◌, ℕ, zero, suc, ◌+◌, ◌/◌, ◌%◌, ltb}
use Rattle.text.specs.Characters.{space, digit0}

-- the decimal digits of n ("Numbers are written in decimal"); f is at least n, and only says that the definition ends
unfoldable pub digits_by : ℕ → ℕ → List ℕ
digits_by zero n = (digit0 + n) ∷ []
digits_by (suc f) n = cond (ltb n 10) ((digit0 + n) ∷ []) (digits_by f (n / 10) ++ ((digit0 + n % 10) ∷ []))

unfoldable pub dec : ℕ → List ℕ
dec n = digits_by n n

-- a number after the space that parts it from the field before
unfoldable pub spaced : ℕ → List ℕ
spaced n = space ∷ dec n

-- each number after a space
unfoldable pub spaced_all : List ℕ → List ℕ
spaced_all [] = []
spaced_all (n ∷ ns) = spaced n ++ spaced_all ns

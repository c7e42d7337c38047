-- A buffer of zeros, and how many of its bytes an input has filled.
use Rattle.std.specs.Prelude.{◌≡◌, ℕ, ◌≤◌, List, length, take, replicate}

-- the first n of a list are there: n is at most its length, and they are n
abbrev pub IsPrefixLen : ℕ → List ℕ → Type 0
IsPrefixLen n xs = (n ≤ length xs) × (n ≡ length (take n xs))

-- a list is n zeros; a record, so that no proof lays 720,918 of them out
pub record AreZeros (n : ℕ) (xs : List ℕ) : Type 0 where
  pub zeros : xs ≡ replicate n 0

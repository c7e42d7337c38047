-- The order of keys: lists of numbers by their first difference. Assumes nothing.
use Rattle.std.specs.Prelude.{◌≡◌, Bool, true, false, ◌&&◌, ◌||◌, List, [], ◌∷◌, ◌⊎◌, ℕ, ◌<◌, ltb, eqb}

-- xs comes before ys or is ys: the first place at which they differ decides, the smaller number
-- first
abbrev pub Precedes : List ℕ → List ℕ → Type 0
Precedes [] ys = Unit {0}
Precedes (x ∷ xs) [] = ⊥
Precedes (x ∷ xs) (y ∷ ys) = (x < y) ⊎ ((x ≡ y) × Precedes xs ys)

-- the same as a test
abbrev pub precedes : List ℕ → List ℕ → Bool
precedes [] ys = true
precedes (x ∷ xs) [] = false
precedes (x ∷ xs) (y ∷ ys) = ltb x y || (eqb x y && precedes xs ys)

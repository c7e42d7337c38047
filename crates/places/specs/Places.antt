-- The first places of an array. Assumes nothing.
use Rattle.std.specs.Prelude.{List, [], ◌∷◌, ℕ, zero, suc}

module _ {A : Type 0} where
  -- the first n elements of a list, with d in every place past its end; a number above an array's places shows as a list of that length
  unfoldable pub firsts : ℕ → List A → A → List A
  firsts zero l d = []
  firsts (suc n) [] d = d ∷ firsts n [] d
  firsts (suc n) (x ∷ l) d = x ∷ firsts n l d

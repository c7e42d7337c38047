-- Places of two arrays compared. Assumes nothing.
use mathlib.Core.Path.{◌≡◌, refl, ap, ◌∙◌}
use mathlib.Core.Bool.{Bool, ◌&&◌}
use mathlib.Core.List.{List, [], ◌∷◌}
use Prim.Native.Nat.{ℕ, ◌≤◌}
use lib.ListN.{length, take}
use lib.Dec.{eqb}
use lib.Pointwise.{pointwise}
use Rattle.places.specs.Places.{firsts}
use Rattle.places.proofs.Firsts.{firsts_take}
use Rattle.ledger.specs.Lists.{same_list}

-- lists compared by the code, in the words of the rules
listed : {A : Type 0} (r : A → A → Bool) (xs ys : List A) → pointwise r xs ys ≡ same_list r xs ys
listed r [] [] = refl
listed r [] (y ∷ ys) = refl
listed r (x ∷ xs) [] = refl
listed r (x ∷ xs) (y ∷ ys) = ap (λ (b : Bool). r x y && b) (listed r xs ys)

-- the first n places of two arrays
pub same_places : (n : ℕ) (one other : List ℕ) → n ≤ length one → n ≤ length other → pointwise eqb (take n one) (take n other) ≡ same_list eqb (firsts n one 0) (firsts n other 0)
same_places n one other h g = listed eqb (take n one) (take n other) ∙ rw (firsts_take n one 0 h, firsts_take n other 0 g)

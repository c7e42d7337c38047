-- What is read at the front of a list does not see what follows it. Assumes nothing.
use mathlib.Core.Path.{◌≡◌, refl, ap}
use mathlib.Core.List.{List, [], ◌∷◌, ◌++◌}
use Prim.Native.Nat.{ℕ, zero, suc, ◌+◌, ◌*◌, ◌<◌, ◌≤◌}
use native.Mathlib.Omega.{arith}
use lib.ListN.{length, get_or}
use Rattle.numbers.specs.Numbers.{number_in}

pub byte_front : (a t : List ℕ) (i : ℕ) → i < length a → get_or (a ++ t) i 0 ≡ get_or a i 0
byte_front [] t i h = let z : ◌≡◌ {A = ℕ} 0 1 = omega arith in cc
byte_front (x ∷ a) t zero h = refl
byte_front (x ∷ a) t (suc i) h = byte_front a t i (omega arith)

pub number_front : (n : ℕ) (a t : List ℕ) → n ≤ length a → number_in n (a ++ t) ≡ number_in n a
unfolding number_in
number_front zero a t h = refl
number_front (suc n) [] t h = let z : ◌≡◌ {A = ℕ} 0 1 = omega arith in cc
number_front (suc n) (x ∷ a) t h = ap (λ (v : ℕ). x + 256 * v) (number_front n a t (omega arith))

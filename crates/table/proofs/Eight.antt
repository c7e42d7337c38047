-- Eight places filled from the front. Assumes nothing.
use mathlib.Core.Path.{◌≡◌, refl, ◌∙◌}
use mathlib.Core.List.{List, []}
use Prim.Native.Nat.{ℕ, ◌≤◌}
use lib.ListN.{length, take, replicate}
use Rattle.places.specs.Places.{firsts}
use Rattle.places.proofs.Firsts.{firsts_take}

-- eight places without hops
pub no_hops : replicate {A = ℕ} 8 0 ≡ firsts 8 [] 0
unfolding firsts
no_hops = refl

-- ---- what is left of a list where the places after the first n are cleared
pub part_filled : (n : ℕ) (xs out : List ℕ) → n ≤ length xs → out ≡ firsts 8 (take n xs) 0 → out ≡ firsts 8 (firsts n xs 0) 0
part_filled n xs out h e = e ∙ rw (firsts_take n xs 0 h)

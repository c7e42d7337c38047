-- The tests of the checks of a route, part by part, and what a test that passed shows. Assumes nothing.
use mathlib.Core.Path.{◌≡◌}
use mathlib.Core.Bool.{true, false}
use Prim.Native.Nat.{ℕ, ◌<◌, ◌≤◌}
use native.Mathlib.Decide.{dec_lt}
use native.Mathlib.Omega.{arith}
use lib.Dec.{eqb, ltb, leb}
use borrow.Author.Tests.{lt-leb, le-leb, lt-ltb, le-ltb, ltb-true, ltb-false, eqb-false, not-false}
use Rattle.lists.proofs.Count.{or_neither}
use Rattle.ledger.specs.Routes.{bad_length, unknown}

module _ (count l w : ℕ) (e : w ≡ l) where
  pub not_known : count ≤ w → unknown count l ≡ true
  unfolding unknown
  not_known h = rw (← e, le-ltb w count h)

  pub known : w < count → unknown count l ≡ false
  unfolding unknown
  known h = rw (← e, lt-ltb w count h)

-- the code's test
pub unknown_told : (count l : ℕ) → leb count l ≡ unknown count l
unfolding unknown
unknown_told count l = elim (dec_lt l count) [
  | yes h ↦ rw (lt-leb count l h, lt-ltb l count h)
  | no h ↦ let g : count ≤ l = omega arith in rw (le-leb count l g, le-ltb l count g)
]

-- ---- what a test that passed shows
pub length_passed : (n : ℕ) → bad_length n ≡ false → (0 < n) × (n ≤ 8)
unfolding bad_length
length_passed n e =
    let o : (eqb n 0 ≡ false) × (ltb 8 n ≡ false) = or_neither (eqb n 0) (ltb 8 n) e in
    let z : n ≡ 0 → ⊥ = eqb-false n 0 o.0 in
    (omega arith, ltb-false 8 n o.1)

pub known_passed : (count l : ℕ) → unknown count l ≡ false → l < count
unfolding unknown
known_passed count l e = ltb-true l count (not-false (ltb l count) e)

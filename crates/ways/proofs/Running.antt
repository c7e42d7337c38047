-- Running sums, filled from the front, and a window's sum by them. Assumes nothing.
use mathlib.Core.Path.{◌≡◌, ap₂}
use mathlib.Core.List.{List}
use Prim.Native.Nat.{ℕ, ◌+◌, ◌-◌, ◌*◌, ◌%◌, ◌^◌, ◌<◌, ◌≤◌}
use native.Mathlib.Nat.{le_trans}
use native.Mathlib.Numerals.{add-one}
use native.Mathlib.Omega.{arith}
use lib.ListN.{get_or}
use Rattle.lists.specs.Count.{sum_below}
use Rattle.lists.proofs.Sums.{sum_first, round_within, round_across, sum_most}
use Rattle.words.specs.Word.{bit_of}
use Rattle.ways.specs.Inner.{free_ways, SmallRow, CycleSums}

module _ (f : ℕ → ℕ) where
  pub sum_more : (i sum v : ℕ) → sum ≡ sum_below i f → v ≡ f i → sum + v ≡ sum_below (i + 1) f
  sum_more i sum v e q = rw (add-one i) (ap₂ ◌+◌ e q)

-- no sum over a row passes 64 times 256 to the power 7
pub sum_small : (K free : ℕ) (row : List ℕ) → K ≤ 64 → SmallRow K row → (i : ℕ) → i ≤ K → sum_below i (free_ways free row) ≤ 64 * 256 ^ 7
sum_small K free row h small i l = sum_most 64 i (256 ^ 7) (bit_of free) (λ k. get_or row k 0) (le_trans l h) (λ k m. small k (omega arith))

-- ---- over a whole cycle sums never fall, and none is above 64 times 256 to the power 7
module _ (f : ℕ → ℕ) (K : ℕ) (sums : List ℕ) (s : CycleSums f K sums) where
  pub rising : (m n : ℕ) → m ≤ n → n ≤ K → (get_or sums m 0 ≤ get_or sums n 0) × (get_or sums n 0 ≤ 64 * 256 ^ 7)
  rising m n l h = (
    omega (arith, s.0.each m (omega arith), s.0.each n h, sum_first m n f l),
    omega (arith, s.0.each n h, sum_first n K f h, s.1),
  )

  -- the sum over a window of c places from place a on
  module _ (a c : ℕ) where
    pub window_within : a + c ≤ K → get_or sums (a + c) 0 - get_or sums a 0 ≡ sum_below c (λ d. f ((a + d) % K))
    window_within h = omega (arith, s.0.each (a + c) h, s.0.each a (omega arith), round_within K a c f h)

    pub window_across : a < K → K < a + c → c ≤ K → get_or sums K 0 + get_or sums (a + c - K) 0 - get_or sums a 0 ≡ sum_below c (λ d. f ((a + d) % K))
    window_across p h l =
        omega (arith, s.0.each K (omega arith), s.0.each (a + c - K) (omega arith), s.0.each a (omega arith), round_across K a c f p (omega arith) l)

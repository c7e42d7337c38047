-- The ones of windows that go round a cycle, each from those of the window before. Assumes nothing.
use mathlib.Core.Path.{◌≡◌, refl, ◌∙◌, ap}
use mathlib.Core.List.{List}
use Prim.Native.Nat.{ℕ, zero, suc, ◌+◌, ◌%◌, ◌<◌, ◌≤◌}
use native.Mathlib.Nat.{mod-eq_of_lt}
use native.Mathlib.Omega.{arith}
use lib.ListN.{set, length, get_or, length-set}
use lib.Seq.{get_or-set_same, get_or-set_other}
use borrow.Author.Count.{below_more}
use Rattle.lists.specs.Count.{one_if, sum_below, count_below}
use Rattle.lists.proofs.Count.{sum_cong, count_le}
use Rattle.words.specs.Word.{bit_of}
use Rattle.words.specs.Inner.{window_ones, WindowOnes}

-- one place on: the first member goes, and the next one comes
sum_slide : (n : ℕ) (f : ℕ → ℕ) → sum_below n (λ d. f (suc d)) + f 0 ≡ sum_below n f + f n
sum_slide zero f = refl
sum_slide (suc n) f = omega (arith, sum_slide n f)

module _ (word K w : ℕ) where
  -- the window that begins with frame 0
  pub window_first : w ≤ K → count_below w (bit_of word) ≡ window_ones word K w 0
  window_first h = sum_cong w (λ i. one_if (bit_of word i)) (λ d. one_if (bit_of word ((0 + d) % K))) (λ d l. ap (λ (x : ℕ). one_if (bit_of word x)) (itself d (omega arith)))
    where
      itself : (d : ℕ) → d < K → d ≡ (0 + d) % K
      itself d l = omega (arith, mod-eq_of_lt {n = 0 + d} {m = K} (omega arith))

  -- THE WINDOW OF THE NEXT FRAME has not this frame, and has the frame after the last
  pub window_next : (a n here there : ℕ) → a < K → n ≡ window_ones word K w a → here ≡ one_if (bit_of word a) → there ≡ one_if (bit_of word ((a + w) % K))
      → window_ones word K w (a + 1) + here ≡ n + there
  window_next a n here there l e p q =
      let start : (a + 0) % K ≡ a = mod-eq_of_lt (omega arith) ∙ omega arith in
      omega (
        arith,
        sum_slide w (λ d. one_if (bit_of word ((a + d) % K))),
        sum_cong w (λ d. one_if (bit_of word ((a + 1 + d) % K))) (λ d. one_if (bit_of word ((a + suc d) % K)))
            (λ d m. let s : a + 1 + d ≡ a + suc d = omega arith in ap (λ (x : ℕ). one_if (bit_of word (x % K))) s),
        ap (λ (x : ℕ). one_if (bit_of word x)) start,
      )

  pub window_few : (a : ℕ) → window_ones word K w a ≤ w
  window_few a = count_le w (λ d. bit_of word ((a + d) % K))

  pub no_windows : (ones : List ℕ) → length ones ≡ 64 → WindowOnes word K w 0 ones ones
  no_windows ones l = record { long = l; each = λ a m. absurd (omega arith); rest = λ a m. refl }

  pub one_window : (n : ℕ) (old ones : List ℕ) (v : ℕ) → n < 64 → WindowOnes word K w n old ones → v ≡ window_ones word K w n → WindowOnes word K w (n + 1) old (set ones n v)
  one_window n old ones v l s e = record {
    long = length-set ones n v ∙ s.long;
    each = below_more (λ a. get_or (set ones n v) a 0 ≡ window_ones word K w a) n (λ a m. get_or-set_other ones n a v 0 (λ x. omega arith) ∙ s.each a m)
        (get_or-set_same ones n v 0 (omega (arith, s.long)) ∙ e);
    rest = λ a m. get_or-set_other ones n a v 0 (λ x. omega arith) ∙ s.rest a (omega arith);
  }

-- The transitions of a hop, counted by windows of its free frames. Assumes nothing.
use mathlib.Core.Path.{◌≡◌, sym, ◌∙◌, ap}
use mathlib.Core.Bool.{Bool, true, false, ◌&&◌}
use mathlib.Core.List.{List}
use Prim.Native.Nat.{ℕ, ◌+◌, ◌*◌, ◌%◌, ◌<◌, ◌≤◌}
use native.Mathlib.Nat.{mod-lt, one-mul, zero-mul}
use native.Mathlib.Omega.{arith}
use lib.Dec.{ltb}
use lib.ListN.{get_or}
use Rattle.lists.specs.Count.{one_if, sum_below, count_below}
use Rattle.lists.proofs.Count.{sum_cong}
use Rattle.lists.proofs.Sums.{sum_narrow}
use Rattle.trellis.specs.Trellis.{Stage}
use Rattle.words.specs.Word.{bit_of}
use Rattle.words.specs.Inner.{window_ones, WindowOnes}
use Rattle.words.proofs.Sliding.{window_few}
use Rattle.forwarding.specs.declared.Hop.{Hop}
use Rattle.forwarding.specs.Forwarding.{reference_into, least_hold, gap, may_hold, hold_into, choices}
use Rattle.forwarding.specs.Hops.{HopReady}
use Rattle.forwarding.proofs.Holds.{gap_meets, gap_sum, least_range, choices_range, choices_in}
use Rattle.forwarding.proofs.Windows.{first_frame, near}
use Rattle.search.specs.Inner.{lane_of, Opens, leadings}

-- a colour of a hop by the time of its frame: the delay is the hold times that time
abbrev pub lane_by : ℕ → Hop → Hop → ℕ → Stage
lane_by time g h free = lane_of (λ D. D * time) g h free

-- ---- how many frames a frame leads to
-- THE WINDOW THAT A FRAME LEADS TO has as many frames as there are holds
pub opens : (T : ℕ) (h : Hop) → HopReady T h → (w free : ℕ) → w ≡ choices h → Opens h w free
opens T h r w free e = rw e (record {
  some = omega (arith, choices_range T h r, least_range T h r);
  within = choices_in T h r;
  same = λ g k i. ap (λ (b : Bool). b && bit_of free i) (near T g h k r i);
})

-- ---- the transitions
both_one : (a b : Bool) → one_if (a && b) ≡ one_if a * one_if b
both_one true b = sym (one-mul (one_if b))
both_one false b = sym (zero-mul (one_if b))

-- the free ones of a window of w frames that begins with frame a
window_count : (K w a free : ℕ) → a < K → w ≤ K → count_below K (λ i. ltb (gap K a i) w && bit_of free i) ≡ window_ones free K w a
window_count K w a free inside narrow =
    sum_cong K (λ i. one_if (ltb (gap K a i) w && bit_of free i)) (λ i. G (gap K a i))
    (λ i m. both_one (ltb (gap K a i) w) (bit_of free i) ∙ ap (λ (x : ℕ). one_if (ltb (gap K a i) w) * one_if (bit_of free x)) (sym (gap_meets K a i inside m)))
    ∙ gap_sum K a G inside ∙ sum_narrow K w (λ d. one_if (bit_of free ((a + d) % K))) narrow
  where
    G : ℕ → ℕ
    G x = one_if (ltb x w) * one_if (bit_of free ((a + x) % K))

module _ (g h : Hop) (w free : ℕ) (blank ones : List ℕ) (some : 0 < h.frames) (open_is : Opens h w free) (windows : WindowOnes free h.frames w h.frames blank ones) where
  -- from one frame
  from_one : (k : ℕ) → count_below h.frames (λ i. may_hold h (hold_into g h k i) && bit_of free i) ≡ get_or ones (first_frame g h k) 0
  from_one k =
      let inside : first_frame g h k < h.frames = mod-lt (reference_into g h k + least_hold h) some in
      sum_cong h.frames (λ i. one_if (may_hold h (hold_into g h k i) && bit_of free i)) (λ i. one_if (ltb (gap h.frames (first_frame g h k) i) w && bit_of free i)) (λ i l. ap one_if (open_is.same g k i))
      ∙ window_count h.frames w (first_frame g h k) free inside open_is.within ∙ sym (windows.each (first_frame g h k) inside)

  -- THE TRANSITIONS ARE COUNTED BY WINDOWS
  pub all_counted : (many : List ℕ) (n : ℕ) → leadings (first_frame g h) many ones n ≡ sum_below n (λ k. get_or many k 0 * count_below h.frames (λ i. may_hold h (hold_into g h k i) && bit_of free i))
  all_counted many n =
      sum_cong n (λ k. get_or many k 0 * get_or ones (first_frame g h k) 0) (λ k. get_or many k 0 * count_below h.frames (λ i. may_hold h (hold_into g h k i) && bit_of free i))
      (λ k l. ap (λ (x : ℕ). get_or many k 0 * x) (sym (from_one k)))

pub ones_few : (free K w : ℕ) (blank ones : List ℕ) → w ≤ 64 → WindowOnes free K w K blank ones → (a : ℕ) → a < K → get_or ones a 0 ≤ 64
ones_few free K w blank ones l s a m = omega (arith, s.each a m, window_few free K w a)

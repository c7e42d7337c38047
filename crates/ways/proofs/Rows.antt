-- The row of the hop before, filled from the front, each number by a window. Assumes nothing.
use mathlib.Core.Path.{◌≡◌, sym, ◌∙◌, ap}
use mathlib.Core.Bool.{Bool, ◌&&◌}
use mathlib.Core.List.{List}
use Prim.Native.Nat.{ℕ, ◌+◌, ◌*◌, ◌%◌, ◌<◌}
use native.Mathlib.Omega.{arith}
use lib.ListN.{get_or, set, length-set}
use Rattle.lists.specs.Count.{one_if, sum_below}
use Rattle.lists.proofs.Count.{sum_cong}
use Rattle.places.proofs.Firsts.{one_stored}
use Rattle.forwarding.specs.declared.Hop.{Hop}
use Rattle.forwarding.specs.Forwarding.{reference_into, least_hold, is_free, may_hold, hold_into, is_allowed, choices}
use Rattle.forwarding.proofs.Transitions.{turn_may}
use Rattle.forwarding.proofs.Windows.{frame_window}
use Rattle.ways.specs.Inner.{plain, free_ways, LeadsInto, RowBefore}

module _ (g h : Hop) (row : List ℕ) where
  -- the ways on from frame k are the sum over a window of the frames of the next hop
  pub row_window : (k r y w v : ℕ) → LeadsInto g h row → r ≡ reference_into g h k → y ≡ least_hold h → w ≡ choices h
      → v ≡ sum_below w (λ d. free_ways (get_or h.free 0 0) row (((r + y) % h.frames + d) % h.frames)) → v ≡ sum_below h.frames (λ i. one_if (is_allowed g h (plain k) (plain i)) * get_or row i 0)
  unfolding is_free
  row_window k r y w v p er ey ew e =
      e ∙ rw (er, ey, ew) (sym (sum_cong h.frames (λ i. one_if (is_allowed g h (plain k) (plain i)) * get_or row i 0) (λ i. one_if (may_hold h (hold_into g h k i) && is_free h (plain i)) * get_or row i 0)
      (λ i l. ap (λ (b : Bool). one_if (may_hold h (hold_into g h k i) && (b && is_free h (plain i))) * get_or row i 0) (turn_may h 0 0 (omega arith, omega arith)))
      ∙ frame_window p.ticks g h k p.ready (λ i. is_free h (plain i)) (λ i. get_or row i 0)))

  pub one_before : (n : ℕ) (ways : List ℕ) (v : ℕ) → n < 64 → RowBefore g h row n ways
      → v ≡ sum_below h.frames (λ i. one_if (is_allowed g h (plain n) (plain i)) * get_or row i 0) → RowBefore g h row (n + 1) (set ways n v)
  one_before n ways v l b e = record {
    long = length-set ways n v ∙ b.long;
    each = one_stored ways n v 0 (λ k. sum_below h.frames (λ i. one_if (is_allowed g h (plain k) (plain i)) * get_or row i 0)) (omega (arith, b.long)) b.each e;
  }

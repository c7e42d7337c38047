-- The frames that a frame leads to are a window of the next link's frames, modulo its cycle: sums
-- over windows. Assumes nothing.
use mathlib.Core.Path.{◌≡◌, sym, ◌∙◌, ap}
use mathlib.Core.Bool.{Bool, true, false, ◌&&◌}
use Prim.Native.Nat.{ℕ, ◌+◌, ◌*◌, ◌%◌, ◌<◌}
use native.Mathlib.Nat.{mod-lt, mul-one, mul-zero, one-mul, zero-mul}
use lib.Dec.{ltb}
use Rattle.lists.specs.Count.{one_if, sum_below}
use Rattle.lists.proofs.Count.{sum_cong}
use Rattle.lists.proofs.Sums.{sum_times, sum_narrow, sum_swap}
use Rattle.forwarding.specs.declared.Hop.{Hop}
use Rattle.forwarding.specs.Forwarding.{Spot, reference_into, least_hold, gap, is_free, may_turn, may_hold, hold_into, is_allowed, choices}
use Rattle.forwarding.specs.Hops.{HopReady}
use Rattle.forwarding.specs.Route.{nodes, spot_at}
use Rattle.forwarding.proofs.Spots.{sum_spots}
use Rattle.forwarding.proofs.Holds.{gap_meets, gap_sum, into_gap, test_shift, choices_in}
use Rattle.forwarding.proofs.Transitions.{may_choice}

both_times : (a b : Bool) (x : ℕ) → one_if (a && b) * x ≡ one_if a * (one_if b * x)
both_times true b x = sym (one-mul (one_if b * x))
both_times false b x = zero-mul x ∙ sym (zero-mul (one_if b * x))

-- the first frame of the hop h that frame k of the hop g leads to
abbrev pub first_frame : Hop → Hop → ℕ → ℕ
first_frame g h k = (reference_into g h k + least_hold h) % h.frames

-- the spot of a frame number modulo the cycle, in a colour
abbrev pub at : Hop → ℕ → ℕ → Spot
at h i c = record { frame = i % h.frames; colour = c }

module _ (T : ℕ) (g h : Hop) (k : ℕ) (p : HopReady T h) where
  abbrev first : ℕ
  first = first_frame g h k

  first_in : first < h.frames
  first_in = mod-lt (reference_into g h k + least_hold h) p.some_frame

  -- the hold is within the range exactly where the frame is in the window
  pub near : (i : ℕ) → may_hold h (hold_into g h k i) ≡ ltb (gap h.frames first i) (choices h)
  near i =
      may_choice T h (hold_into g h k i) p ∙ ap (λ (D : ℕ). ltb D (least_hold h + choices h)) (into_gap g h k i)
      ∙ test_shift (least_hold h) (gap h.frames first i) (choices h)

  -- A SUM OVER THE FRAMES THAT k LEADS TO IS ONE OVER A WINDOW of as many as there are holds, for
  -- any further test of a frame
  pub frame_window : (free? : ℕ → Bool) (f : ℕ → ℕ) → sum_below h.frames (λ i. one_if (may_hold h (hold_into g h k i) && free? i) * f i)
      ≡ sum_below (choices h) (λ d. one_if (free? ((first + d) % h.frames)) * f ((first + d) % h.frames))
  frame_window free? f =
      sum_cong K (λ i. one_if (may_hold h (hold_into g h k i) && free? i) * f i) (λ i. G (gap K first i))
      (λ i m. both_times (may_hold h (hold_into g h k i)) (free? i) (f i) ∙ ap (λ (b : Bool). one_if b * F i) (near i)
      ∙ ap (λ (x : ℕ). one_if (ltb (gap K first i) (choices h)) * F x) (sym (gap_meets K first i first_in m)))
      ∙ gap_sum K first G first_in
      ∙ sum_narrow K (choices h) (λ d. F ((first + d) % K)) (choices_in T h p)
    where
      K : ℕ
      K = h.frames

      F : ℕ → ℕ
      F i = one_if (free? i) * f i

      G : ℕ → ℕ
      G x = one_if (ltb x (choices h)) * F ((first + x) % K)

-- the colour's test taken out of the three tests of a transition
between : (a b c : Bool) (x : ℕ) → one_if (a && (b && c)) * x ≡ one_if (a && c) * x * one_if b
between true true c x = sym (mul-one (one_if c * x))
between true false c x = zero-mul x ∙ sym (mul-zero (one_if c * x))
between false true c x = sym (mul-one (0 * x))
between false false c x = zero-mul x ∙ sym (mul-zero (0 * x))

-- A SUM OVER THE SPOTS THAT x LEADS TO: for each colour that x leads to, the window of frames
pub window_sum : (T : ℕ) (g h : Hop) (x : Spot) → HopReady T h → (f : Spot → ℕ)
    → sum_below (nodes h) (λ n. one_if (is_allowed g h x (spot_at h n)) * f (spot_at h n))
    ≡ sum_below h.colours (λ c. sum_below (choices h) (λ d. one_if (is_free h (at h (first_frame g h x.frame + d) c)) * f (at h (first_frame g h x.frame + d) c)) * one_if (may_turn h x.colour c))
window_sum T g h x p f =
    sum_spots h (λ y. one_if (is_allowed g h x y) * f y)
    ∙ sum_swap h.frames h.colours (λ i c. one_if (is_allowed g h x (record { frame = i; colour = c })) * f (record { frame = i; colour = c }))
    ∙ sum_cong h.colours (λ c. sum_below h.frames (λ i. one_if (is_allowed g h x (record { frame = i; colour = c })) * f (record { frame = i; colour = c })))
    (λ c. sum_below (choices h) (λ d. one_if (is_free h (at h (first_frame g h x.frame + d) c)) * f (at h (first_frame g h x.frame + d) c)) * one_if (may_turn h x.colour c)) by_colour_lem
  where
    by_colour_lem : (c : ℕ) → c < h.colours → sum_below h.frames (λ i. one_if (is_allowed g h x (record { frame = i; colour = c })) * f (record { frame = i; colour = c }))
        ≡ sum_below (choices h) (λ d. one_if (is_free h (at h (first_frame g h x.frame + d) c)) * f (at h (first_frame g h x.frame + d) c)) * one_if (may_turn h x.colour c)
    by_colour_lem c l =
        sum_cong h.frames (λ i. one_if (is_allowed g h x (record { frame = i; colour = c })) * f (record { frame = i; colour = c }))
        (λ i. one_if (may_hold h (hold_into g h x.frame i) && is_free h (record { frame = i; colour = c })) * f (record { frame = i; colour = c }) * one_if (may_turn h x.colour c))
        (λ i m. between (may_hold h (hold_into g h x.frame i)) (may_turn h x.colour c) (is_free h (record { frame = i; colour = c })) (f (record { frame = i; colour = c })))
        ∙ sum_times h.frames (one_if (may_turn h x.colour c)) (λ i. one_if (may_hold h (hold_into g h x.frame i) && is_free h (record { frame = i; colour = c })) * f (record { frame = i; colour = c }))
        ∙ ap (λ (n : ℕ). n * one_if (may_turn h x.colour c)) (frame_window T g h x.frame p (λ i. is_free h (record { frame = i; colour = c })) (λ i. f (record { frame = i; colour = c })))

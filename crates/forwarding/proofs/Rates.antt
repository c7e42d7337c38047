-- The reference frame at equal rates and where rates change, and that it waits for the whole frame
-- (W-201). Assumes nothing.
use mathlib.Core.Path.{◌≡◌, sym, ◌∙◌, ap}
use Prim.Native.Nat.{ℕ, ◌+◌, ◌-◌, ◌*◌, ◌/◌, ◌<◌, ◌≤◌}
use native.Mathlib.Nat.{add-zero, mod-eq_of_lt, zero-div, div-eq_of_lt-le, div-div-eq-div-mul, div-mul-le_self, lt-div-mul-add, le-div_iff_mul-le, mul_assoc, mul_comm, mul_right_comm, add-mul, zero-mul, one-mul, mul-le-mul_right, mul-lt-mul_of_pos_right, le_of_mul-le-mul_right, lt_of_mul-lt-mul_right}
use native.Mathlib.Omega.{arith}
use Rattle.forwarding.specs.declared.Hop.{Hop}
use Rattle.forwarding.specs.Forwarding.{reference, reference_into, hold_into, frame_time, delay}
use Rattle.forwarding.specs.Hops.{HopReady}
use Rattle.forwarding.specs.Rates.{SameRate, ToFaster, ToSlower, ToFasterLater, NeverEarlier, WholeFrame, NotYetWhole, TurnsRound, SameFrame}
use Rattle.forwarding.proofs.Holds.{hold_fitting, into_gap}
use Rattle.forwarding.proofs.Transitions.{cycle_frames, hold_may, turn_may}

pub next_mul : (k K : ℕ) → (k + 1) * K ≡ k * K + K
next_mul k K = add-mul k 1 K ∙ ap (λ (x : ℕ). k * K + x) (one-mul K)

-- F-i of source document 002, equal rates: the frame of the same number
pub same_rate : SameRate
unfolding reference
same_rate k K p = div-eq_of_lt-le K (omega (arith, next_mul k K)) (omega (arith, next_mul k K))

-- W-201 in the place of F-ii, from slow to fast: the last of the m frames that the frame covers
pub to_faster : ToFaster
unfolding reference
to_faster k m K' p q =
    let r : ℕ = (k + 1) * m - 1 in
    let e : r + 1 ≡ (k + 1) * m = omega (arith, next_mul k m) in
    ap (λ (x : ℕ). (x - 1) / K') (sym (mul_assoc (k + 1) m K') ∙ ap (λ (x : ℕ). x * K') (sym e)) ∙ same_rate r K' p

-- F-iii, from fast to slow: the frame that covers it
pub to_slower : ToSlower
unfolding reference
to_slower k m K p =
    ap (λ (x : ℕ). ((k + 1) * K - 1) / x) (mul_comm m K)
    ∙ sym (div-div-eq-div-mul ((k + 1) * K - 1) K m)
    ∙ ap (λ (x : ℕ). x / m) (same_rate k K p)

-- "slow to fast moves later": document 01 named the first of the m frames
pub to_faster_later : ToFasterLater
to_faster_later k m K' p q = omega (arith, to_faster k m K' p (omega arith), next_mul k m)

-- NO REFERENCE FRAME COMES EARLIER than by document 01, whatever the rates
pub never_earlier : NeverEarlier
unfolding reference
never_earlier k K K' p q = (le-div_iff_mul-le q).1 (omega (arith, div-mul-le_self (k * K) K', next_mul k K))

-- two adjacent hops, for a cycle of T ticks: frame k of the first ends at tick (k + 1) × T / K',
-- frame j of the second begins at tick j × T / K
module _ (T : ℕ) (g h : Hop) (k : ℕ) (pg : HopReady T g) (ph : HopReady T h) where
  abbrev r : ℕ
  r = reference_into g h k

  -- how long a frame of the first hop lasts
  abbrev time : ℕ
  time = frame_time T g.frames

  -- either is y cycles
  y_cycles : (y : ℕ) → y * g.frames * time ≡ y * frame_time T h.frames * h.frames
  y_cycles y =
      mul_assoc y g.frames time
      ∙ ap (λ (x : ℕ). y * x) (mul_comm g.frames time ∙ cycle_frames T g.frames pg.divides ∙ sym (cycle_frames T h.frames ph.divides))
      ∙ sym (mul_assoc y (frame_time T h.frames) h.frames)

  -- when the reference frame ends the last bit has arrived
  arrived : (k + 1) * time ≤ (r + 1) * frame_time T h.frames
  unfolding reference reference_into
  arrived =
      let whole : (k + 1) * h.frames ≤ (r + 1) * g.frames = omega (arith, next_mul r g.frames, lt-div-mul-add {a = (k + 1) * h.frames - 1} pg.some_frame) in
      le_of_mul-le-mul_right
      (omega (arith, mul-le-mul_right time whole, y_cycles (r + 1), mul_right_comm (k + 1) h.frames time))
      ph.some_frame

  ends_after : (D : ℕ) → (k + 1) * time + D * frame_time T h.frames ≤ (r + D + 1) * frame_time T h.frames
  ends_after D =
      let same : r + 1 + D ≡ r + D + 1 = omega arith in
      omega (arith, arrived, add-mul (r + 1) D (frame_time T h.frames), ap (λ (x : ℕ). x * frame_time T h.frames) same)

  begins_before : 0 < T → r * frame_time T h.frames < (k + 1) * time
  unfolding reference reference_into
  begins_before t =
      let early : r * g.frames < (k + 1) * h.frames = omega (arith, div-mul-le_self ((k + 1) * h.frames - 1) g.frames, next_mul k h.frames, ph.some_frame) in
      let lasts : 0 < time = lt_of_mul-lt-mul_right g.frames {m = 0} (omega (arith, zero-mul g.frames, cycle_frames T g.frames pg.divides, t)) in
      lt_of_mul-lt-mul_right h.frames
      (omega (arith, mul-lt-mul_of_pos_right early lasts, y_cycles r, mul_right_comm (k + 1) h.frames time))

-- "Some switches need two frames to turn round, those of source document 000 none"
pub turns_round : TurnsRound
turns_round T g h k pg ph i = (omega (arith, into_gap g h k i), ends_after T g h k pg ph (hold_into g h k i))

-- "The new switches send nothing of a frame before its last bit has arrived"
pub whole_frame : WholeFrame
whole_frame T g h k pg ph i some =
    let time : ℕ = frame_time T h.frames in
    let D : ℕ = hold_into g h k i in
    let one : 1 * time ≤ D * time = mul-le-mul_right time some in
    omega (arith, one, one-mul time, (turns_round T g h k pg ph i).1, next_mul (reference_into g h k + D) time)

-- and it waits no longer than it must
pub not_yet_whole : NotYetWhole
not_yet_whole T g h k pg ph t = begins_before T g h k pg ph t

-- WITH Y 0 THE SAME FRAME NUMBER IS A HOLD OF 0 AND A DELAY OF 0
pub same_frame : SameFrame
unfolding hold_into
same_frame T g h x p e l y = (none, rw none (unfold delay in rw zero-mul (zero-div h.frames)), rw (none, hold_may h 0 (omega arith), turn_may h x.colour x.colour (omega arith, omega arith)))
  where
    there : reference_into g h x.frame ≡ x.frame
    there = unfold reference_into in rw e (same_rate x.frame h.frames p.some_frame)

    none : hold_into g h x.frame x.frame ≡ 0
    none = rw (y, there) (sym (hold_fitting 0 h.frames x.frame x.frame 0 (record { least = omega arith; most = omega arith; fits = rw add-zero (mod-eq_of_lt l) })))

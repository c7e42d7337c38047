-- One transition: to a free frame, by a hold within the range, with its delay. Assumes nothing.
use mathlib.Core.Path.{◌≡◌, sym, ◌∙◌}
use mathlib.Core.Bool.{Bool, true, ◌&&◌}
use Prim.Native.Nat.{ℕ, ◌*◌, ◌<◌, ◌≤◌}
use native.Mathlib.Omega.{arith}
use lib.Dec.{ltb}
use borrow.Author.Tests.{ltb-true}
use Rattle.lists.proofs.Count.{and_both}
use Rattle.forwarding.specs.declared.Hop.{Hop}
use Rattle.forwarding.specs.Forwarding.{Spot, is_free, frame_time}
use Rattle.forwarding.specs.Hops.{HopReady}
use Rattle.forwarding.specs.Schedule.{is_on}
use Rattle.forwarding.proofs.Transitions.{delay_frames, delay_le}

-- ---- a spot that is on a hop and free
module _ (h : Hop) (x : Spot) where
  pub spot_in : (b : Bool) → b ≡ (is_on h x && is_free h x) → b ≡ true → (x.frame < h.frames) × (x.colour < h.colours)
  spot_in b e g =
      let a = and_both (is_on h x) (is_free h x) (sym e ∙ g) in
      let o = and_both (ltb x.frame h.frames) (ltb x.colour h.colours) a.0 in
      (ltb-true x.frame h.frames o.0, ltb-true x.colour h.colours o.1)

-- ---- one transition
-- no hold within the range lasts longer than a cycle
pub hold_lasts : (T : ℕ) (h : Hop) (D time : ℕ) → T ≤ 960 → HopReady T h → D ≤ h.range → time ≡ frame_time T h.frames → D * time ≤ 960
hold_lasts T h D time c p l e =
    rw e (omega (arith, delay_frames T h.frames D p.some_frame p.divides, delay_le T h.frames D (omega (arith, p.in_cycle))))

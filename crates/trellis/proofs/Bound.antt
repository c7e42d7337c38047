-- Bounds on the count of steps considered and on the costs. Assumes nothing.
use mathlib.Core.Path.{◌≡◌, subst}
use mathlib.Core.Bool.{true, ◌&&◌}
use mathlib.Core.List.{List, [], ◌∷◌}
use Prim.Native.Nat.{ℕ, ◌+◌, ◌*◌, ◌<◌, ◌≤◌}
use native.Mathlib.Nat.{le_trans}
use native.Mathlib.Omega.{arith}
use lib.ListN.{get_or}
use Rattle.lists.specs.Count.{one_if, count_below}
use Rattle.lists.proofs.Count.{sum_le, sum_bound, and_right_le}
use Rattle.trellis.specs.Trellis.{Reach, never, after, cost_of, Stage, Trellis, entry, ◌▸◌, width, Leads, cost_to}
use Rattle.trellis.specs.Considered.{ends_path, considered}
use Rattle.trellis.proofs.Survivor.{row, back}
use Rattle.trellis.proofs.Optimal.{Survives, survives}

-- THE COUNT'S BOUND: a stage to which each node before has at most w steps adds at most w for each
-- of those nodes
pub step_bound : (t : Trellis) (st : Stage) (w : ℕ) → ((k : ℕ) → k < width t → count_below st.size (λ i. st.allowed k i) ≤ w)
    → considered (t ▸ st) ≤ considered t + width t * w
step_bound t st w h =
    omega (
      arith,
      sum_bound (width t) w (λ k. count_below st.size (λ i. ends_path t k && st.allowed k i))
          (λ k l. le_trans (sum_le st.size (λ i. one_if (ends_path t k && st.allowed k i)) (λ i. one_if (st.allowed k i)) (λ i m. and_right_le (ends_path t k) (st.allowed k i))) (h k l)),
    )

-- no path costs more than b
abbrev pub Capped : Trellis → ℕ → Type 0
Capped t b = (i : ℕ) (p : List ℕ) → Leads t i p → cost_to t i p ≤ b

pub capped_entry : (n : ℕ) (s : ℕ → Reach) (b : ℕ) → ((i : ℕ) → cost_of (s i) ≤ b) → Capped (entry n s) b
capped_entry n s b h i p l = h i

pub capped_step : (t : Trellis) (st : Stage) (b m : ℕ) → Capped t b → ((k i : ℕ) → st.allowed k i ≡ true → st.cost k i ≤ m) → Capped (t ▸ st) (b + m)
capped_step t st b m h c i [] l = absurd l
capped_step t st b m h c i (k ∷ p) l = omega (arith, h k p l.2, c k i l.1)

-- nor does a row show more
pub row_capped : (t : Trellis) (b i c : ℕ) → Capped t b → get_or (row t) i never ≡ after c → c ≤ b
row_capped t b i c h e =
    let s = subst (Survives t i (back t i)) e (survives t i) in
    omega (arith, h i (back t i) s.path, s.costs)

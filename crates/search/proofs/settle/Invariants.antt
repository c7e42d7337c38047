-- `search::settle` meets its contract. The invariant: the frames below i are settled, and the others have their picks. Assumes nothing.
use mathlib.Core.Path.{◌≡◌}
use Prim.Native.Nat.{ℕ}
use Rattle.search.specs.Inner.{Settled, Settling}
use Rattle.search.proofs.settle.Given as goal

abbrev pub invariant-loop-i : goal.invariant-loop-i
invariant-loop-i l = (l.near.lanes ≡ l.initial.near.lanes)
    × ((w : ℕ) → Settling l.time.0 l.lead.0 l.frames l.free w l.ring.keys l.ring.froms l.initial.near.lanes l.initial.near.cells l.initial.preds → Settled l.time.0 l.lead.0 l.frames l.free w l.ring.keys l.ring.froms l.initial.near.lanes l.i l.near.cells l.preds)

-- `search::gather` meets its contract. The invariant: the frames below k are gathered, and their transitions counted. Assumes nothing.
use mathlib.Core.Path.{◌≡◌}
use Prim.Native.Nat.{◌*◌, ◌≤◌}
use Rattle.forwarding.proofs.Windows.{first_frame}
use Rattle.search.specs.Inner.{Gathers, leadings}
use Rattle.search.proofs.gather.Given as goal

abbrev pub invariant-loop-k : goal.invariant-loop-k
invariant-loop-k l = (l.count ≤ l.k * 256) × Gathers (first_frame l.before l.hop) l.time.0 l.frames l.near.cells l.k l.ring.keys l.ring.froms × (l.ring.frames ≡ l.initial.ring.frames) × (l.ring.cycle ≡ l.initial.ring.cycle) × (l.count ≡ leadings (first_frame l.before l.hop) l.near.many l.ones l.k)

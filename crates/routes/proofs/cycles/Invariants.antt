-- `routes::cycles` meets its contract. The invariant: the cycles of the hops before `at` are stored. Assumes nothing.
use Prim.Native.Nat.{◌-◌}
use Rattle.routes.proofs.HopCycles.{CyclesSoFar}
use Rattle.routes.proofs.cycles.Given as goal

abbrev pub invariant-loop-at : goal.invariant-loop-at
invariant-loop-at l = CyclesSoFar l.hops l.frames l.cycles (l.at - 1) l.at

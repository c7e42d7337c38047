-- `ways::number_over` meets its contract. The invariant: the row has the ways on from each frame of
-- hop j - 1. Assumes nothing.
use Prim.Native.Nat.{◌-◌}
use Rattle.ways.proofs.Hops.{Counts}
use Rattle.ways.proofs.number_over.Given as goal

abbrev pub invariant-loop-j : goal.invariant-loop-j
invariant-loop-j l = Counts l.hops (l.j - 1) l.row

-- `routes::walk` meets its contract. The invariant: the frames before j are a schedule so far, with their delay. Assumes nothing.
use Prim.Native.Nat.{◌-◌}
use Rattle.routes.proofs.Walks.{Along}
use Rattle.routes.proofs.walk.Given as goal

abbrev pub invariant-loop-j : goal.invariant-loop-j
invariant-loop-j l = Along l.t l.hops l.frames l.colours l.total.0 (l.j - 1) l.j

-- `search::sweep` meets its contract. The invariant: hops 0 to j are swept. Assumes nothing.
use mathlib.Core.Path.{◌≡◌}
use Prim.Native.Nat.{◌*◌, ◌≤◌}
use lib.ListN.{length}
use Rattle.search.specs.Inner.{Swept}
use Rattle.search.proofs.sweep.Given as goal

abbrev pub invariant-loop-j : goal.invariant-loop-j
invariant-loop-j l = (l.count ≤ l.j * 65536) × Swept l.t l.hops l.initial.row l.j l.row l.preds l.count × (length l.next ≡ 256)

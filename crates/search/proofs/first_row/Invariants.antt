-- `search::first_row` meets its contract. The invariant: the lanes of the colours below c are there.
-- Assumes nothing.
use mathlib.Core.Path.{◌≡◌}
use Prim.Native.Nat.{◌≤◌}
use lib.ListN.{length}
use Rattle.search.specs.Inner.{FirstRow}
use Rattle.search.proofs.first_row.Given as goal

abbrev pub invariant-loop-c : goal.invariant-loop-c
invariant-loop-c l = (l.frames ≤ 64) × (length l.free ≡ 4) × FirstRow l.free l.frames l.c l.cells

-- `table::meets` meets its contract. The invariant: no frame of the first j hops is marked. Assumes nothing.
use Rattle.table.specs.Inner.{marked_in}
use Rattle.table.proofs.Marks.{Unmet}
use Rattle.table.proofs.meets.Given as goal

abbrev pub invariant-loop-j : goal.invariant-loop-j
invariant-loop-j l = Unmet (marked_in l.words) l.place.hops l.place.route l.place.held.frames l.place.held.colours l.j

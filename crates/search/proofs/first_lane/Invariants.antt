-- `search::first_lane` meets its contract. The invariant: the cells below i are there. Assumes nothing.
use Rattle.search.specs.Inner.{FirstLane}
use Rattle.search.proofs.first_lane.Given as goal

abbrev pub invariant-loop-i : goal.invariant-loop-i
invariant-loop-i l = FirstLane l.free l.c l.i l.initial.cells l.cells

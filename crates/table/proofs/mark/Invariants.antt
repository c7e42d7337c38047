-- `table::mark` meets its contract. The invariant: the words have the frames of the first j hops. Assumes nothing.
use Rattle.table.specs.Inner.{Marked}
use Rattle.table.proofs.Marks.{first_slots}
use Rattle.table.proofs.mark.Given as goal

abbrev pub invariant-loop-j : goal.invariant-loop-j
invariant-loop-j l = let held = l.place.held in Marked (first_slots l.place.route held.frames held.colours l.j) l.initial.words l.words

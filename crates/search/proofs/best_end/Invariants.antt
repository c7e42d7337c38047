-- `search::best_end` meets its contract. Assumes nothing.
-- Invariant: the end is the best of the colours below c.
use Rattle.search.specs.Inner.{EndOf}
use Rattle.search.proofs.best_end.Given as goal

abbrev pub invariant-loop-c : goal.invariant-loop-c
invariant-loop-c l = EndOf l.row l.frames l.c l.end.key l.end.place

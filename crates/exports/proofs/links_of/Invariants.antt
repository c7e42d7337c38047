-- `exports::links_of` meets its contract. The invariant: the links before `i` stand in their places. Assumes nothing.
use Rattle.exports.proofs.Values.{Filled}
use Rattle.exports.proofs.links_of.Given as goal

abbrev pub invariant-loop-i : goal.invariant-loop-i
invariant-loop-i l = Filled l.frames l.range l.closed l.least l.links l.i

-- `exports::put_places` meets its contract. The invariant: the places before `i` stand in the buffer. Assumes nothing.
use Rattle.exports.proofs.Numbers.{Stand}
use Rattle.exports.proofs.put_places.Given as goal

abbrev pub invariant-loop-i : goal.invariant-loop-i
invariant-loop-i l = Stand l.places l.at l.initial.out l.out l.i

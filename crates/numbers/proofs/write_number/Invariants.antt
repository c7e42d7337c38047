-- `numbers::write_number` meets its contract. Assumes nothing.
use Rattle.numbers.proofs.Loops.{Put}
use Rattle.numbers.proofs.write_number.Given as goal

abbrev pub invariant-loop-i : goal.invariant-loop-i
invariant-loop-i l = Put l.initial.s l.n l.x l.s l.rest l.i

-- `word::read_number` meets its contract: from the last byte down, the number read so far is that of the bytes from i on.
use Rattle.numbers.proofs.Loops.{Got}
use Rattle.numbers.proofs.read_number.Given as goal

abbrev pub invariant-loop-i : goal.invariant-loop-i
invariant-loop-i l = Got l.s l.n l.x l.i

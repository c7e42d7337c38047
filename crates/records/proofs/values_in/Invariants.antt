-- `records::values_in` meets its contract. Assumes nothing.
use Rattle.records.proofs.Turns.{Taken}
use Rattle.records.proofs.values_in.Given as goal

abbrev pub invariant-loop-j : goal.invariant-loop-j
invariant-loop-j g l = Taken l.fields g.row.N l.map l.rest l.values l.at l.j

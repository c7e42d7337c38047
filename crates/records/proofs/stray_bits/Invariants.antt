-- `records::stray_bits` meets its contract. Assumes nothing.
use Rattle.records.proofs.Turns.{Cleared}
use Rattle.records.proofs.stray_bits.Given as goal

abbrev pub invariant-loop-field : goal.invariant-loop-field
invariant-loop-field l = Cleared l.fields l.map l.left l.field-index

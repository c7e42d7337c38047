-- `records::restated` meets its contract. The invariant: no field before these is restated. Assumes nothing.
use Rattle.records.proofs.Turns.{Unstated}
use Rattle.records.proofs.restated.Given as goal

abbrev pub invariant-loop-field : goal.invariant-loop-field
invariant-loop-field l = Unstated l.fields l.values l.map l.field-iterator.a.rest.now l.field-iterator.b.rest.now

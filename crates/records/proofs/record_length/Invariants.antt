-- `records::record_length` meets its contract. Assumes nothing.
use Rattle.records.proofs.Pieces.{Measured}
use Rattle.records.proofs.record_length.Given as goal

abbrev pub invariant-loop-field : goal.invariant-loop-field
invariant-loop-field l = Measured l.fields l.values l.total l.field-iterator.a.rest.now l.field-iterator.b.rest.now

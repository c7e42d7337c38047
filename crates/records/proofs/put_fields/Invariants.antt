-- `records::put_fields` meets its contract. Assumes nothing.
use Rattle.records.proofs.Pieces.{Placed}
use Rattle.records.proofs.put_fields.Given as goal

abbrev pub invariant-loop-field : goal.invariant-loop-field
invariant-loop-field l = Placed l.fields l.values l.initial.buffer l.buffer l.at l.field-iterator.a.rest.now l.field-iterator.b.rest.now

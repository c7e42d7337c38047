-- `records::map_of` meets its contract. Assumes nothing.
use Rattle.records.proofs.Pieces.{Mapped}
use Rattle.records.proofs.map_of.Given as goal

abbrev pub invariant-loop-field : goal.invariant-loop-field
invariant-loop-field l = Mapped l.fields l.values l.map l.field-iterator.a.rest.now l.field-iterator.b.rest.now

-- `records::field_length` meets its contract. Assumes nothing.
use Rattle.records.proofs.Pieces.{some_long, none_long}
use Rattle.records.proofs.field_length.Goals as goal

pub returns-then-is_written : goal.returns-then-is_written
returns-then-is_written c = some_long _ _ _ c.is_written.ensures c.if-is_written.true

pub returns-else-is_written : goal.returns-else-is_written
returns-else-is_written c = none_long _ _ _ c.is_written.ensures c.if-is_written.false

-- `records::is_restated` meets its contract. Assumes nothing.
use Rattle.records.proofs.Turns.{restated_here, restated_absent}
use Rattle.records.proofs.is_restated.Goals as goal

pub returns-then-has_bit : goal.returns-then-has_bit
returns-then-has_bit c = restated_here _ c.args.field _ _ c.has_bit.ensures c.if-has_bit.true

pub returns-else-has_bit : goal.returns-else-has_bit
returns-else-has_bit c = restated_absent _ c.args.field _ _ c.has_bit.ensures c.if-has_bit.false

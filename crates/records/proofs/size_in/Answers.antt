-- `records::size_in` meets its contract. Assumes nothing.
use Rattle.records.proofs.Turns.{size_here, size_absent}
use Rattle.records.proofs.size_in.Goals as goal

pub returns-then-has_bit : goal.returns-then-has_bit
returns-then-has_bit c = size_here _ _ _ c.has_bit.ensures c.if-has_bit.true

pub returns-else-has_bit : goal.returns-else-has_bit
returns-else-has_bit c = size_absent _ _ _ c.has_bit.ensures c.if-has_bit.false

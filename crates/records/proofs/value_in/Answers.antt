-- `records::value_in` meets its contract. Assumes nothing.
use Rattle.records.proofs.Turns.{value_here, value_absent, value_room}
use Rattle.records.proofs.value_in.Goals as goal

pub read_number-requires : goal.read_number-requires
read_number-requires c = (value_room _ c.args.field _ c.has_bit.ensures c.if-has_bit.true _ c.requires.2, c.requires.1)

pub returns-then-has_bit : goal.returns-then-has_bit
returns-then-has_bit c = value_here _ c.args.field _ _ c.has_bit.ensures c.if-has_bit.true _ c.read_number.ensures

pub returns : goal.returns
returns c = value_absent _ c.args.field _ _ c.has_bit.ensures c.if-has_bit.false

-- `records::put_field` meets its contract. Assumes nothing.
use native.Mathlib.Omega.{arith}
use lib.ListN.{length-drop}
use Rattle.places.proofs.Parts.{part_rest}
use Rattle.records.proofs.Pieces.{some_room, some_put, none_put}
use Rattle.records.proofs.put_field.Goals as goal

pub write_number-requires : goal.write_number-requires
write_number-requires c = rw (part_rest c.args.at c.args.buffer.now, length-drop) (omega (arith, some_room c.args.field c.args.value _ c.is_written.ensures c.args.buffer.now c.args.at c.if-is_written.true c.requires))

pub overflow_add-result : goal.overflow_add-result
overflow_add-result c = omega (arith, some_room c.args.field c.args.value _ c.is_written.ensures c.args.buffer.now c.args.at c.if-is_written.true c.requires)

pub returns-then-is_written : goal.returns-then-is_written
returns-then-is_written c = some_put c.args.field c.args.value _ c.is_written.ensures c.args.buffer.now c.args.at c.if-is_written.true c.requires _ c.write_number.ensures

pub returns : goal.returns
returns c = none_put c.args.field _ _ c.is_written.ensures _ _ c.if-is_written.false

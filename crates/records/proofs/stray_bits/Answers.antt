use native.Mathlib.Omega.{arith}
use Rattle.records.proofs.Layouts.{laid_at}
use Rattle.records.proofs.Turns.{one_cleared, all_cleared}
use Rattle.records.proofs.stray_bits.Goals as goal

pub clear_bit-left-requires : goal.clear_bit-left-requires
clear_bit-left-requires c = omega (arith, (laid_at c.args.fields.now c.loop-field.field-index c.requires.0 (omega arith)).low)

pub loop-field-preserved : goal.loop-field-preserved
loop-field-preserved c = one_cleared c.args.fields.now _ _ c.loop-field.field-index _ c.loop-field.invariant (omega arith) c.clear_bit-left.ensures

pub returns : goal.returns
returns c = all_cleared c.args.fields.now _ _ c.loop-field.field-index c.requires.1 c.loop-field.invariant (omega arith)

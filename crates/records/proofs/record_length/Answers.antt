use native.Mathlib.Omega.{arith}
use Rattle.records.proofs.Layouts.{starts, none_left}
use Rattle.records.proofs.Pieces.{none_measured, one_measured, all_measured}
use Rattle.records.proofs.record_length.Goals as goal

pub loop-field-init : goal.loop-field-init
loop-field-init c = none_measured c.args.fields.now c.args.values.now _ _ (starts _ _ c.requires.0 c.requires.1 _ _ _ c.into_iter-field-iterator.ensures.into_iter_gives c.zip-field-items.ensures.first c.iter.ensures.rest c.zip-field-items.ensures.second.0)

pub overflow_add-total : goal.overflow_add-total
overflow_add-total c = omega (arith, (one_measured c.args.fields.now c.args.values.now _ _ _ _ _ _ c.in-Some.ensures.steps _ _ c.loop-field.invariant c.field_length-total.ensures).small, c.requires.0.few)

pub loop-field-preserved : goal.loop-field-preserved
loop-field-preserved c = one_measured c.args.fields.now c.args.values.now _ _ _ _ _ _ c.in-Some.ensures.steps _ _ c.loop-field.invariant c.field_length-total.ensures

pub returns : goal.returns
returns c = all_measured c.args.fields.now c.args.values.now _ _ _ c.requires.0 c.loop-field.invariant (none_left _ _ c.loop-field.invariant.left c.in-None.ensures.steps)

use Rattle.records.proofs.Layouts.{starts, none_left}
use Rattle.records.proofs.Pieces.{none_placed, field_room, one_placed, all_placed}
use Rattle.records.proofs.put_fields.Goals as goal

pub loop-field-init : goal.loop-field-init
loop-field-init c = none_placed c.args.fields.now c.args.values.now _ c.requires.2 _ _ (starts _ _ c.requires.0 c.requires.1 _ _ _ c.into_iter-field-iterator.ensures.into_iter_gives c.zip-field-items.ensures.first c.iter.ensures.rest c.zip-field-items.ensures.second.0)

pub put_field-at-requires : goal.put_field-at-requires
put_field-at-requires c = field_room c.args.fields.now c.args.values.now _ _ _ _ _ _ c.in-Some.ensures.steps _ _ _ c.requires.2 c.loop-field.invariant

pub loop-field-preserved : goal.loop-field-preserved
loop-field-preserved c = one_placed c.args.fields.now c.args.values.now _ _ _ _ _ _ c.in-Some.ensures.steps _ _ _ c.requires.2 c.loop-field.invariant _ _ c.put_field-at.ensures

pub returns : goal.returns
returns c = all_placed c.args.fields.now c.args.values.now _ c.requires.2 _ _ _ _ c.loop-field.invariant (none_left _ _ c.loop-field.invariant.left c.in-None.ensures.steps)

use Rattle.records.proofs.Layouts.{starts, first_left, none_left}
use Rattle.records.proofs.Pieces.{none_mapped, one_mapped, all_mapped}
use Rattle.records.proofs.map_of.Goals as goal

pub loop-field-init : goal.loop-field-init
loop-field-init c = none_mapped c.args.fields.now c.args.values.now _ _ (starts _ _ c.requires.0 c.requires.1 _ _ _ c.into_iter-field-iterator.ensures.into_iter_gives c.zip-field-items.ensures.first c.iter.ensures.rest c.zip-field-items.ensures.second.0)

pub map_with-map-requires : goal.map_with-map-requires
map_with-map-requires c = (first_left _ _ _ _ _ _ c.in-Some.ensures.steps c.loop-field.invariant.left).low

pub loop-field-preserved : goal.loop-field-preserved
loop-field-preserved c = one_mapped c.args.fields.now c.args.values.now _ _ _ _ _ _ c.in-Some.ensures.steps _ _ c.loop-field.invariant c.map_with-map.ensures

pub returns : goal.returns
returns c = all_mapped c.args.fields.now c.args.values.now _ _ _ c.requires.0.layout c.loop-field.invariant (none_left _ _ c.loop-field.invariant.left c.in-None.ensures.steps)

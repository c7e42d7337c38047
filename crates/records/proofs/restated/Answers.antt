use Rattle.records.proofs.Layouts.{starts, first_left, none_left}
use Rattle.records.proofs.Turns.{none_unstated, one_restated, one_unstated, all_unstated}
use Rattle.records.proofs.restated.Goals as goal

pub loop-field-init : goal.loop-field-init
loop-field-init c = none_unstated c.args.fields.now c.args.values.now _ _ _ (starts _ _ c.requires.0 c.requires.1 _ _ _ c.into_iter-field-iterator.ensures.into_iter_gives c.zip-field-items.ensures.first c.iter.ensures.rest c.zip-field-items.ensures.second.0)

pub is_restated-requires : goal.is_restated-requires
is_restated-requires c = (first_left _ _ _ _ _ _ c.in-Some.ensures.steps c.loop-field.invariant.left).low

pub returns-then-is_restated : goal.returns-then-is_restated
returns-then-is_restated c = one_restated c.args.fields.now c.args.values.now _ _ _ _ _ _ _ c.in-Some.ensures.steps c.loop-field.invariant _ c.is_restated.ensures c.if-is_restated.true

pub loop-field-preserved : goal.loop-field-preserved
loop-field-preserved c = one_unstated c.args.fields.now c.args.values.now _ _ _ _ _ _ _ c.in-Some.ensures.steps c.loop-field.invariant _ c.is_restated.ensures c.if-is_restated.false

pub returns : goal.returns
returns c = all_unstated c.args.fields.now c.args.values.now _ _ _ c.loop-field.invariant (none_left _ _ c.loop-field.invariant.left c.in-None.ensures.steps)

use Rattle.exports.proofs.Numbers.{none_stand, one_stands, all_stand}
use Rattle.exports.proofs.put_places.Goals as goal

pub loop-i-init : goal.loop-i-init
loop-i-init c = none_stand c.args.places.now _ _ c.requires

pub loop-i-preserved : goal.loop-i-preserved
loop-i-preserved c = one_stands _ _ _ c.requires _ _ c.loop-i.invariant c.loop-i-test.true _ c.from.ensures

pub returns : goal.returns
returns c = all_stand c.args.places.now _ _ c.requires _ _ c.loop-i.invariant c.loop-i.auto.i-end c.loop-i-test.false

use Rattle.exports.proofs.Values.{none_filled, one_filled, all_filled}
use Rattle.exports.proofs.links_of.Goals as goal

pub loop-i-init : goal.loop-i-init
loop-i-init c = none_filled _ _ _ _ _ c.no_link-links.ensures

pub loop-i-preserved : goal.loop-i-preserved
loop-i-preserved c = one_filled _ _ _ _ _ c.requires.1 c.requires.0 _ _ c.loop-i.invariant c.loop-i-test.true

pub returns : goal.returns
returns c = all_filled _ _ _ _ _ c.requires.1 c.requires.0 _ _ c.loop-i.invariant c.loop-i-test.false

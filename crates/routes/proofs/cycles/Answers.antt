use Rattle.routes.proofs.HopCycles.{first_cycle, one_cycle, all_cycles}
use Rattle.routes.proofs.cycles.Goals as goal

pub loop-at-init : goal.loop-at-init
loop-at-init c = first_cycle _ _ c.requires

pub loop-at-preserved : goal.loop-at-preserved
loop-at-preserved c = one_cycle _ _ c.requires _ _ _ c.loop-at.invariant c.loop-at-test.true _ c.from-k.ensures _ c.from-i.ensures _ c.next_cycle.ensures

pub returns : goal.returns
returns c = all_cycles _ _ c.requires _ _ _ c.loop-at.invariant c.loop-at-test.false

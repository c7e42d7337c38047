-- `network::bad_cycle` meets its contract. Assumes nothing.
use Rattle.network.proofs.Tests.{no_ticks, some_ticks}
use Rattle.network.proofs.bad_cycle.Goals as goal

pub returns-then-ticks-eq0 : goal.returns-then-ticks-eq0
returns-then-ticks-eq0 c = no_ticks _ c.if-ticks-eq0.true

pub returns-else-ticks-eq0 : goal.returns-else-ticks-eq0
returns-else-ticks-eq0 c = some_ticks _ c.if-ticks-eq0.false

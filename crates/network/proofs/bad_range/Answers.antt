-- `network::bad_range` meets its contract. Assumes nothing.
use Rattle.network.proofs.Tests.{no_range, some_range}
use Rattle.network.proofs.bad_range.Goals as goal

pub returns-then-range-eq0 : goal.returns-then-range-eq0
returns-then-range-eq0 c = no_range _ _ c.if-range-eq0.true

pub returns-else-range-eq0 : goal.returns-else-range-eq0
returns-else-range-eq0 c = some_range _ _ c.if-range-eq0.false

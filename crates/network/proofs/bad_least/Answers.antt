-- `network::bad_least` meets its contract. Assumes nothing.
use Rattle.network.proofs.Tests.{least_above, least_none, least_some}
use Rattle.network.proofs.bad_least.Goals as goal

pub returns-then-range-least : goal.returns-then-range-least
returns-then-range-least c = least_above _ _ _ c.if-range-least.true

pub returns-then-least-eq0 : goal.returns-then-least-eq0
returns-then-least-eq0 c = least_none _ _ _ c.if-range-least.false c.if-least-eq0.true

pub returns-else-least-eq0 : goal.returns-else-least-eq0
returns-else-least-eq0 c = least_some _ _ _ c.if-range-least.false c.if-least-eq0.false

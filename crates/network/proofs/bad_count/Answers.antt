-- `network::bad_count` meets its contract. Assumes nothing.
use Rattle.network.proofs.Tests.{no_links, some_links}
use Rattle.network.proofs.bad_count.Goals as goal

pub returns-then-count-eq0 : goal.returns-then-count-eq0
returns-then-count-eq0 c = no_links _ c.if-count-eq0.true

pub returns-else-count-eq0 : goal.returns-else-count-eq0
returns-else-count-eq0 c = some_links _ c.if-count-eq0.false

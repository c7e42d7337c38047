-- `state::no_sessions` meets its contract. Assumes nothing.
use Rattle.table.proofs.Eight.{no_hops}
use Rattle.state.proofs.no_sessions.Goals as goal

pub returns : goal.returns
returns c = rw (c.nothing_held-held.ensures, no_hops)

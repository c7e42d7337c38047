-- `sessions::set_up` meets its contract. Assumes nothing.
use Rattle.sessions.proofs.First.{broken_serves}
use Rattle.sessions.proofs.set_up.Goals as goal

pub returns-in-Err : goal.returns-in-Err
returns-in-Err c = broken_serves c.args.st _ c.check_state.ensures _ c.in-Err.is _

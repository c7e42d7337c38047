-- `sessions::release` meets its contract. Assumes nothing.
use Rattle.sessions.proofs.First.{broken_releases}
use Rattle.sessions.proofs.release.Goals as goal

pub returns-in-Err : goal.returns-in-Err
returns-in-Err c = broken_releases c.args.st _ c.check_state.ensures _ c.in-Err.is _

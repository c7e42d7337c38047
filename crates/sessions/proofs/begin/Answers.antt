-- `sessions::begin` meets its contract. Assumes nothing.
use Rattle.sessions.proofs.Beginning.{shut_passed}
use Rattle.sessions.proofs.begin.Goals as goal

pub fresh_state-state-requires-in-Err : goal.fresh_state-state-requires-in-Err
fresh_state-state-requires-in-Err c = shut_passed _ c.shut_network.ensures

-- `sessions::answer_ways` meets its contract. Assumes nothing.
use Rattle.sessions.proofs.First.{broken_ways}
use Rattle.sessions.proofs.answer_ways.Goals as goal

pub returns-in_err-check_state : goal.returns-in_err-check_state
returns-in_err-check_state c = broken_ways c.args.st.now _ c.check_state.ensures _ c.in_err-check_state.was _ _ c.from_residual.ensures

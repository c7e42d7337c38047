-- `sessions::answer_quote` meets its contract. Assumes nothing.
use Rattle.sessions.proofs.First.{broken_quoted}
use Rattle.sessions.proofs.answer_quote.Goals as goal

pub returns-in_err-check_state : goal.returns-in_err-check_state
returns-in_err-check_state c = broken_quoted c.args.st.now _ c.check_state.ensures _ c.in_err-check_state.was _ _ c.from_residual.ensures

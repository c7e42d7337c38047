-- `replay::state_after` meets its contract. Assumes nothing.
use Rattle.state.proofs.Replies.{first_intact}
use Rattle.replay.proofs.Replaying.{counted_run}
use Rattle.replay.proofs.state_after.Goals as goal

pub run-requires : goal.run-requires
run-requires c = first_intact c.args.network _ c.fresh_state-first.ensures c.requires

pub returns : goal.returns
returns c = counted_run c.args.network _ c.fresh_state-first.ensures c.args.calls.now _ c.counted-n.ensures _ c.run.ensures

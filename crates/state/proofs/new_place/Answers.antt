-- `state::new_place` meets its contract. Assumes nothing.
use Rattle.state.proofs.SetUps.{stored_route}
use Rattle.state.proofs.new_place.Goals as goal

pub returns : goal.returns
returns c = stored_route c.args.number _ _ c.args.held c.in_eight.ensures c.requires

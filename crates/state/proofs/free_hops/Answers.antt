-- `state::free_hops` meets its contract. Assumes nothing.
use Rattle.ledger.proofs.Intact.{intact_is}
use Rattle.state.proofs.Within.{all_within}
use Rattle.state.proofs.Searches.{free_hops_lem}
use Rattle.state.proofs.free_hops.Goals as goal

pub held_words-held-requires : goal.held_words-held-requires
held_words-held-requires c = all_within c.args.st.now c.requires.0

pub route_hops-requires : goal.route_hops-requires
route_hops-requires c = ((intact_is _ c.requires.0).network, c.requires.1)

pub returns : goal.returns
returns c = free_hops_lem c.args.st.now c.requires.0 _ c.requires.1 _ c.held_words-held.ensures _ c.route_hops.ensures

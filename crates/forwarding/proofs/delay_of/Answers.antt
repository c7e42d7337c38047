-- `forwarding::delay_of` meets its contract. Assumes nothing.
use Rattle.forwarding.proofs.Transitions.{delayed}
use Rattle.forwarding.proofs.delay_of.Goals as goal

pub returns : goal.returns
returns c = delayed _ _

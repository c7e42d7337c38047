-- `forwarding::least_hold` meets its contract. Assumes nothing.
use mathlib.Core.Path.{refl}
use Rattle.forwarding.specs.Forwarding.{least_hold}
use Rattle.forwarding.proofs.least_hold.Goals as goal

pub returns : goal.returns
unfolding least_hold
returns c = refl

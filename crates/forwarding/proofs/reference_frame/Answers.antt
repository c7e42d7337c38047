-- `forwarding::reference_frame` meets its contract. Assumes nothing.
use borrow.Author.Rules.{rules}
use Rattle.forwarding.specs.Forwarding.{reference, reference_into}
use Rattle.forwarding.proofs.reference_frame.Goals as goal

pub returns : goal.returns
unfolding reference reference_into
returns c = search rules

-- `forwarding::frame_time` meets its contract. Assumes nothing.
use borrow.Author.Rules.{rules}
use Rattle.forwarding.specs.Forwarding.{frame_time}
use Rattle.forwarding.proofs.frame_time.Goals as goal

pub returns : goal.returns
unfolding frame_time
returns c = search rules

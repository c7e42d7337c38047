-- `network::check_links` meets its contract. The invariant: the links before this one passed. Assumes nothing.
use Rattle.network.proofs.Checks.{Reached}
use Rattle.network.proofs.check_links.Given as goal

abbrev pub invariant-loop-link : goal.invariant-loop-link
invariant-loop-link l = Reached l.ticks l.links l.link-index

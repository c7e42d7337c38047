-- `routes::rates_apart` meets its contract. The invariant: no link before j is apart from the next. Assumes nothing.
use Rattle.network.specs.Network.{topology_of}
use Rattle.routes.proofs.Routes.{Compared}
use Rattle.routes.proofs.rates_apart.Given as goal

abbrev pub invariant-loop-j : goal.invariant-loop-j
invariant-loop-j l = Compared (topology_of l.network) l.route l.j

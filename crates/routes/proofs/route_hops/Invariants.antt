-- `routes::route_hops` meets its contract. The invariant: the hops before j are laid. Assumes nothing.
use mathlib.Core.Path.{◌≡◌}
use lib.ListN.{take}
use Rattle.places.specs.Places.{firsts}
use Rattle.forwarding.specs.Hops.{blank_hop}
use Rattle.routes.specs.Hops.{hops_from}
use Rattle.routes.proofs.route_hops.Given as goal

abbrev pub invariant-loop-j : goal.invariant-loop-j
invariant-loop-j l = l.hops ≡ firsts 8 (hops_from l.network.links l.held (take l.j l.route)) blank_hop

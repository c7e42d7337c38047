-- The network that `begin` gives in place of a refused one. Assumes nothing.
use mathlib.Core.Path.{◌≡◌, refl, ap, ◌∙◌}
use Rattle.places.specs.Places.{firsts}
use Rattle.refusals.specs.Refusals.{given, pass}
use Rattle.network.specs.Network.{topology_of}
use Rattle.network.specs.Checks.{bad_count, bad_cycle, bad_frames, bad_range, bad_least, bad_closed, link_check, links_check, network_check}
use Rattle.network.specs.declared.Network.{Network}
use Rattle.sessions.specs.Calls.{shut_network}

-- the network on which nothing can be held passes its checks
shut_passes : network_check (topology_of shut_network) ≡ given pass
unfolding topology_of firsts network_check bad_count bad_cycle links_check link_check bad_frames bad_range bad_least bad_closed
shut_passes = refl

pub shut_passed : (net : Network) → net ≡ shut_network → network_check (topology_of net) ≡ given pass
shut_passed net e = ap (λ (n : Network). network_check (topology_of n)) e ∙ shut_passes

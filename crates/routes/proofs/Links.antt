-- The links of a network that passed its checks, and of a route over it. Assumes nothing.
use mathlib.Core.Path.{◌≡◌}
use mathlib.Core.Bool.{false}
use mathlib.Core.List.{List, [], ◌∷◌}
use Prim.Native.Nat.{ℕ, zero, suc, ◌<◌, ◌≤◌}
use native.Mathlib.Nat.{not-suc-le-zero, le_of_suc-le-suc}
use native.Mathlib.Omega.{arith}
use lib.ListN.{length, get_or}
use Rattle.places.proofs.Firsts.{length_firsts, get_d_firsts}
use Rattle.refusals.specs.Refusals.{given, pass}
use Rattle.network.specs.declared.Link.{Link}
use Rattle.network.specs.declared.Network.{Network}
use Rattle.network.specs.Network.{Topology, no_link, topology_of}
use Rattle.network.specs.Checks.{links_check, network_check}
use Rattle.network.proofs.Tests.{count_passed, frames_passed}
use Rattle.network.proofs.Checks.{GoodLink, link_good, links_good, network_good}
use Rattle.ledger.specs.Sessions.{link_at}
use Rattle.ledger.specs.Routes.{unknown, unknown_link}
use Rattle.routes.proofs.Tests.{known_passed}
use Rattle.routes.proofs.Sought.{no_place_lem}

good_at : (T : ℕ) (ls : List Link) (l : ℕ) → links_check T ls ≡ given pass → l < length ls → GoodLink T (get_or ls l no_link)
good_at T [] l e h = absurd (not-suc-le-zero h)
good_at T (x ∷ ls) zero e h = link_good T x (links_good T x ls e).0
good_at T (x ∷ ls) (suc l) e h = good_at T ls l (links_good T x ls e).1 (le_of_suc-le-suc h)

-- each link of a network that passed its checks is good
pub link_passed : (net : Topology) (l : ℕ) → network_check net ≡ given pass → l < length net.links → GoodLink net.ticks (link_at net l)
link_passed net l e h = good_at net.ticks net.links l (network_good net e).links h

-- check 13 passed: a link of the route is one of the network's
pub route_link : (net : Topology) (route : List ℕ) (j : ℕ) → unknown_link net route ≡ false → j < length route → get_or route j 0 < length net.links
unfolding unknown_link
route_link net route j e h = known_passed (length net.links) (get_or route j 0) (no_place_lem (unknown (length net.links)) route j 0 e h)

-- ---- a network of stored values
module _ (network : Network) where
  pub many_links : length (topology_of network).links ≡ network.count
  unfolding topology_of
  many_links = length_firsts network.count network.links no_link

  pub known_place : (route : List ℕ) (j : ℕ) → unknown_link (topology_of network) route ≡ false → j < length route → get_or route j 0 < network.count
  known_place route j e h = rw many_links at (route_link (topology_of network) route j e h)

  module _ (l : ℕ) (h : l < network.count) where
    pub stored_link : link_at (topology_of network) l ≡ get_or network.links l no_link
    unfolding topology_of
    stored_link = get_d_firsts network.count l network.links no_link h

    module _ (e : network_check (topology_of network) ≡ given pass) where
      pub in_places_lem : l < 32
      in_places_lem = omega (arith, (count_passed (length (topology_of network).links) (network_good (topology_of network) e).count).1, many_links)

      pub frames_bounded : (0 < (get_or network.links l no_link).frames) × ((get_or network.links l no_link).frames ≤ 64)
      frames_bounded =
          let g : GoodLink (topology_of network).ticks (link_at (topology_of network) l) = link_passed (topology_of network) l e (rw many_links h) in
          let f = frames_passed (topology_of network).ticks (link_at (topology_of network) l).frames g.frames in
          rw (← stored_link) (f.0, f.1)

    pub stored_frames : (k : Link) → k ≡ get_or network.links l no_link → k.frames ≡ (link_at (topology_of network) l).frames
    stored_frames k e = rw (stored_link, e)

    -- the same by a number that equals the link's
    module _ (e : network_check (topology_of network) ≡ given pass) (at : ℕ) (ea : at ≡ l) where
      pub at_place : at < 32
      at_place = omega (arith, in_places_lem e, ea)

      pub at_frames : (0 < (get_or network.links at no_link).frames) × ((get_or network.links at no_link).frames ≤ 64)
      at_frames = rw ea (frames_bounded e)

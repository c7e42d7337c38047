-- The sessions of a state that isn't broken keep within their arrays. Assumes nothing.
use mathlib.Core.Path.{◌≡◌, ap, subst, ◌∙◌}
use mathlib.Core.Bool.{true}
use mathlib.Core.List.{List, []}
use Prim.Native.Nat.{ℕ, ◌<◌, ◌≤◌}
use native.Mathlib.Omega.{arith}
use lib.ListN.{length, get_or, length-map, get_or-map}
use Rattle.places.specs.Places.{firsts}
use Rattle.places.proofs.Firsts.{length_firsts, get_d_firsts}
use Rattle.refusals.specs.Refusals.{given, pass}
use Rattle.network.specs.Network.{Topology, topology_of}
use Rattle.network.specs.Checks.{network_check}
use Rattle.network.proofs.Tests.{count_passed, frames_passed}
use Rattle.network.proofs.Checks.{network_good}
use Rattle.forwarding.specs.declared.Hop.{Hop}
use Rattle.forwarding.specs.Forwarding.{Spot}
use Rattle.forwarding.specs.Hops.{no_hop}
use Rattle.forwarding.specs.Schedule.{colours_of, IsSchedule}
use Rattle.forwarding.proofs.Schedules.{schedule_frame, no_spot, schedule_on}
use Rattle.ledger.specs.Lists.{all_of}
use Rattle.ledger.specs.Held.{spots_in}
use Rattle.ledger.specs.Sessions.{Session, link_at, hop_of, hops_of}
use Rattle.ledger.specs.Sound.{good_session, intact}
use Rattle.ledger.proofs.Colours.{few_colours}
use Rattle.ledger.proofs.Lists.{all_member, member_at}
use Rattle.ledger.proofs.Intact.{Intact, intact_is, GoodSession, session_good, good_frames, good_colours}
use Rattle.routes.proofs.Links.{link_passed}
use Rattle.routes.proofs.Hops.{map_place}
use Rattle.routes.proofs.Routes.{route_long, route_known}
use Rattle.table.specs.declared.Place.{Place}
use Rattle.table.specs.declared.Table.{Table}
use Rattle.table.specs.Table.{session_of, no_place, in_places, live_of}
use Rattle.table.specs.Inner.{PlaceWithin, AllWithin}
use Rattle.table.proofs.Live.{in_length}
use Rattle.state.specs.declared.State.{State}
use Rattle.state.specs.State.{view_of}

-- the colours of a schedule are those of its hops
schedule_colour : (hops : List Hop) (xs : List Spot) → IsSchedule hops xs → (j : ℕ) → j < length hops → get_or (colours_of xs) j 0 < (get_or hops j no_hop).colours
schedule_colour hops xs s j l = rw (← get_or-map (λ (x : Spot). x.colour) xs j no_spot) at (schedule_on hops xs s j l).1

-- a good session keeps within the arrays
module _ (net : Topology) (passed : network_check net ≡ given pass) where
  pub good_within : (place : Place) → GoodSession net (session_of place) → PlaceWithin place
  good_within place g =
      record {
        few = omega (arith, (route_long net (session_of place).route g.route).1, length_firsts place.hops place.route 0);
        link = λ j h. omega (arith, known j h, (count_passed (length net.links) (network_good net passed).count).1, at_route j h);
        frame = λ j h.
            let f = frames_passed net.ticks (link_at net (get_or (session_of place).route j 0)).frames (link_passed net (get_or (session_of place).route j 0) passed (known j h)).frames in
            let of = schedule_frame (hops_of net [] (session_of place).route) (spots_in (session_of place).held) g.schedule j (rw (length-map (session_of place).route (hop_of net [])) (inside j h)) in
            omega (arith, rw (map_place (hop_of net []) (session_of place).route j (inside j h)) at of, f.1, ap (λ (l : List ℕ). get_or l j 0) (good_frames net (session_of place) g), get_d_firsts place.hops j place.held.frames 0 h);
        colour = λ j h.
            let of = schedule_colour (hops_of net [] (session_of place).route) (spots_in (session_of place).held) g.schedule j (rw (length-map (session_of place).route (hop_of net [])) (inside j h)) in
            omega (arith, few_colours (link_at net (get_or (session_of place).route j 0)), rw (map_place (hop_of net []) (session_of place).route j (inside j h)) at of, ap (λ (l : List ℕ). get_or l j 0) (good_colours net (session_of place) g), get_d_firsts place.hops j place.held.colours 0 h);
      }
    where
      inside : (j : ℕ) → j < place.hops → j < length (session_of place).route
      inside j h = omega (arith, h, length_firsts place.hops place.route 0)

      known : (j : ℕ) → j < place.hops → get_or (session_of place).route j 0 < length net.links
      known j h = route_known net (session_of place).route g.route j (inside j h)

      at_route : (j : ℕ) → j < place.hops → get_or (session_of place).route j 0 ≡ get_or place.route j 0
      at_route j h = get_d_firsts place.hops j place.route 0 h

-- the session in a place
pub place_session : (n i : ℕ) (places : List Place) → i < n → get_or (in_places n places) i (session_of no_place) ≡ session_of (get_or places i no_place)
place_session n i places h = get_or-map session_of (firsts n places no_place) i no_place ∙ ap session_of (get_d_firsts n i places no_place h)

-- a table whose sessions are all good
module _ (net : Topology) (table : Table) (good : all_of (good_session net) (live_of table) ≡ true) where
  pub place_good : (i : ℕ) → i < table.live → GoodSession net (session_of (get_or table.places i no_place))
  place_good i h =
      session_good net (session_of (get_or table.places i no_place))
      (subst (λ (s : Session). good_session net s ≡ true) (place_session table.live i table.places h)
      (all_member (good_session net) (live_of table) good
      (member_at (live_of table) i (session_of no_place) (omega (arith, h, in_length table.live table.places)))))

  pub table_within : network_check net ≡ given pass → table.live ≤ 96 → AllWithin table
  table_within passed few = record { few = few; each = λ i h. good_within net passed (get_or table.places i no_place) (place_good i h) }

module _ (st : State) (e : intact (view_of st) ≡ true) where
  ok : Intact (topology_of st.network) (live_of st.table)
  ok = intact_is (view_of st) e

  pub few_live : st.table.live ≤ 96
  few_live = omega (arith, ok.few, in_length st.table.live st.table.places)

  pub all_within : AllWithin st.table
  all_within = table_within (topology_of st.network) st.table ok.sessions ok.network few_live

-- The search over the frames that the sessions of a state leave free. Assumes nothing.
use mathlib.Core.Path.{◌≡◌, refl, sym, ap, subst, ◌∙◌}
use mathlib.Core.Bool.{true}
use mathlib.Core.List.{List}
use Prim.Native.Nat.{ℕ, ◌≤◌}
use native.Mathlib.Omega.{arith}
use lib.ListN.{length, take, length-map}
use lib.Seq.{take_all, length-take-le}
use Rattle.std.specs.Prelude.{Some}
use Rattle.trellis.specs.Answer.{nodes_of}
use Rattle.places.specs.Places.{firsts}
use Rattle.places.proofs.Firsts.{length_firsts, firsts_take, blanks_back}
use Rattle.refusals.specs.Refusals.{given, pass}
use Rattle.network.specs.Network.{topology_of}
use Rattle.network.specs.Checks.{network_check}
use Rattle.network.specs.declared.Network.{Network}
use Rattle.forwarding.specs.declared.Hop.{Hop}
use Rattle.forwarding.specs.Hops.{no_hop, blank_hop, Ready}
use Rattle.forwarding.specs.Schedule.{frames_of, colours_of}
use Rattle.forwarding.specs.Route.{route_answer}
use Rattle.search.specs.Reading.{reading, Finds}
use Rattle.search.specs.declared.Schedule.{Schedule}
use Rattle.search.specs.declared.Finding.{Finding}
use Rattle.ledger.specs.Sessions.{Session, hop_of, hops_of}
use Rattle.ledger.specs.Inner.{HeldWords}
use Rattle.ledger.specs.Routes.{route_check}
use Rattle.ledger.specs.Sound.{intact}
use Rattle.ledger.proofs.Intact.{intact_is}
use Rattle.routes.specs.Hops.{hops_from}
use Rattle.routes.proofs.Routes.{route_long, route_all_known}
use Rattle.routes.proofs.Hops.{hops_held, lent_ready}
use Rattle.table.specs.Table.{live_of}
use Rattle.state.specs.declared.State.{State}
use Rattle.state.specs.State.{view_of}

pub ticks_told : (network : Network) → (topology_of network).ticks ≡ network.ticks
unfolding topology_of
ticks_told network = refl

-- a search's result is the answer of "Least-delay schedule" over n hops
pub record Searched (T n : ℕ) (hops : List Hop) (r : Finding) : Type 0 where
  pub answer : reading n r.schedule r.count ≡ route_answer T hops
  pub places : (s : Schedule) → r.schedule ≡ Some s → s.frames ≡ firsts 8 (frames_of (nodes_of (route_answer T hops))) 0
  pub colour_places : (s : Schedule) → r.schedule ≡ Some s → s.colours ≡ firsts 8 (colours_of (nodes_of (route_answer T hops))) 0

-- the search of all of them
pub searched : (T : ℕ) (hops : List Hop) (r : Finding) → Finds T hops (length hops) r → Searched T (length hops) hops r
searched T hops r a =
    let same : take (length hops) hops ≡ hops = take_all (length hops) hops (omega arith) in
    record {
      answer = a.answer ∙ ap (route_answer T) same;
      places = λ s e. a.places s e ∙ ap (λ (l : List Hop). firsts 8 (frames_of (nodes_of (route_answer T l))) 0) same;
      colour_places = λ s e. a.colour_places s e ∙ ap (λ (l : List Hop). firsts 8 (colours_of (nodes_of (route_answer T l))) 0) same;
    }

-- ---- the hops of a route that passed, over the frames that sessions leave free
module _ (network : Network) (ss : List Session) (route : List ℕ) (passed : network_check (topology_of network) ≡ given pass)
    (checked : route_check (topology_of network) route ≡ given pass) where
  abbrev hops : List Hop
  hops = hops_of (topology_of network) ss route

  -- by the words of the held frames
  pub hops_eight : (held : List ℕ) → HeldWords held ss → (eight : List Hop) → eight ≡ firsts 8 (hops_from network.links held route) blank_hop → eight ≡ firsts 8 hops blank_hop
  hops_eight held w eight e = e ∙ ap (λ (l : List Hop). firsts 8 l blank_hop) (hops_held network held ss route w passed (route_all_known (topology_of network) route checked))

  pub many_hops : length hops ≡ length route
  many_hops = length-map route (hop_of (topology_of network) ss)

  -- laid into eight places, they are read back where the route's places are lent
  pub hops_room : (eight : List Hop) → eight ≡ firsts 8 hops blank_hop → length route ≤ length eight
  hops_room eight e = omega (arith, ap length e, length_firsts 8 hops blank_hop, (route_long (topology_of network) route checked).1)

  pub hops_lent : (eight : List Hop) → eight ≡ firsts 8 hops blank_hop → take (length route) eight ≡ hops
  hops_lent eight e =
      sym (firsts_take (length route) eight no_hop (hops_room eight e))
      ∙ ap (λ (l : List Hop). firsts (length route) l no_hop) e
      ∙ blanks_back 8 (length route) hops blank_hop no_hop many_hops (route_long (topology_of network) route checked).1

  -- lent, they are ready for a search
  module _ (lent : List Hop) (e : lent ≡ hops) where
    pub hops_ready : Ready network.ticks lent (length lent)
    hops_ready =
        subst (λ (l : List Hop). Ready network.ticks l (length l)) (sym e)
        (subst (λ (T : ℕ). Ready T hops (length hops)) (ticks_told network) (lent_ready (topology_of network) ss route passed checked))

    pub hops_searched : (r : Finding) → Finds network.ticks lent (length lent) r → Searched (topology_of network).ticks (length route) hops r
    hops_searched r a =
        subst (λ (T : ℕ). Searched T (length route) hops r) (sym (ticks_told network))
        (subst (λ (n : ℕ). Searched network.ticks n hops r) many_hops
        (subst (λ (l : List Hop). Searched network.ticks (length l) l r) e (searched network.ticks lent r a)))

-- ---- the hops of a route that passed on a state that isn't broken
module _ (st : State) (ok : intact (view_of st) ≡ true) (route : List ℕ) (checked : route_check (topology_of st.network) route ≡ given pass) where
  -- by the words of the frames that it holds they are those over the frames now free
  pub free_hops_lem : (held : List ℕ) → HeldWords held (live_of st.table) → (eight : List Hop) → eight ≡ firsts 8 (hops_from st.network.links held route) blank_hop
      → eight ≡ firsts 8 (hops_of (topology_of st.network) (live_of st.table) route) blank_hop
  free_hops_lem = hops_eight st.network (live_of st.table) route (intact_is (view_of st) ok).network checked

  pub free_room : (eight : List Hop) → eight ≡ firsts 8 (hops_of (topology_of st.network) (live_of st.table) route) blank_hop
      → (length route ≤ length eight) × (length route ≡ length (take (length route) eight))
  free_room eight e =
      let room = hops_room st.network (live_of st.table) route (intact_is (view_of st) ok).network checked eight e in
      (room, sym (length-take-le (length route) eight room))

  pub free_lent : (eight : List Hop) → eight ≡ firsts 8 (hops_of (topology_of st.network) (live_of st.table) route) blank_hop
      → take (length route) eight ≡ hops_of (topology_of st.network) (live_of st.table) route
  free_lent = hops_lent st.network (live_of st.table) route (intact_is (view_of st) ok).network checked

  pub free_ready : (lent : List Hop) → lent ≡ hops_of (topology_of st.network) (live_of st.table) route → Ready st.network.ticks lent (length lent)
  free_ready = hops_ready st.network (live_of st.table) route (intact_is (view_of st) ok).network checked

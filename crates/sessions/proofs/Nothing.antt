-- Where `begin` refused the network nothing is ever held: no session keeps the rules on the network that it gave instead. Assumes nothing.
use mathlib.Core.Path.{◌≡◌, refl, sym, ap, subst, ◌∙◌}
use mathlib.Core.Bool.{true, not, ◌&&◌, false≢true}
use mathlib.Core.List.{List, [], ◌∷◌}
use Prim.Native.Nat.{ℕ, ◌<◌}
use native.Mathlib.Omega.{arith}
use lib.Dec.{ltb}
use lib.ListN.{length, get_or}
use Rattle.lists.proofs.Count as tests
use Rattle.places.specs.Places.{firsts}
use Rattle.words.specs.Word.{bit_of}
use Rattle.network.specs.Network.{Topology, topology_of}
use Rattle.forwarding.specs.Forwarding.{Spot, IsOn, is_free}
use Rattle.forwarding.specs.Schedule.{IsSchedule}
use Rattle.ledger.specs.Lists.{all_of}
use Rattle.ledger.specs.Sessions.{Session, link_at, hop_of, hops_of}
use Rattle.ledger.specs.Sound.{good_session}
use Rattle.ledger.proofs.Free.{free_at_lem}
use Rattle.ledger.proofs.Intact.{session_good, intact_is}
use Rattle.ledger.proofs.Whole.{runs_network}
use Rattle.routes.proofs.Routes.{route_long, route_known}
use Rattle.state.specs.State.{view_of}
use Rattle.sessions.specs.Calls.{shut_network}
use Rattle.sessions.specs.Stored.{NothingHeld}
use Rattle.sessions.proofs.Stored.{stored_by_rules, shut_begun, begun_intact}

-- ---- the network of one link, whose one frame is closed
abbrev shut : Topology
shut = topology_of shut_network

one_link : length shut.links ≡ 1
unfolding topology_of firsts
one_link = refl

one_frame : (hop_of shut [] 0).frames ≡ 1
unfolding topology_of firsts
one_frame = refl

closed : bit_of (link_at shut 0).closed 0 ≡ true
unfolding topology_of firsts bit_of
closed = refl

-- no frame of its link is free, in any colour
none_free_lem : (l : ℕ) (x : Spot) → l ≡ 0 → IsOn (hop_of shut [] l) x → is_free (hop_of shut [] l) x ≡ true → ⊥
none_free_lem l x e h f =
    let z : x.frame ≡ 0 = omega (arith, rw e at h.0, one_frame) in
    let shuts : bit_of (link_at shut l).closed x.frame ≡ true = rw (e, z) closed in
    let open-too = (tests.and_both (ltb x.frame (link_at shut l).frames) (not (bit_of (link_at shut l).closed x.frame) && true) (sym (free_at_lem shut [] l x h.1) ∙ f)).1 in
    false≢true (rw shuts at open-too)

-- no route over it has a schedule
no_schedule_lem : (route : List ℕ) (xs : List Spot) → get_or route 0 0 ≡ 0 → IsSchedule (hops_of shut [] route) xs → ⊥
no_schedule_lem [] xs e s = s
no_schedule_lem (l ∷ ls) [] e s = s
no_schedule_lem (l ∷ ls) (x ∷ xs) e s = none_free_lem l x e s.0 s.1

-- no session keeps the rules on it
no_session : (ss : List Session) → all_of (good_session shut) ss ≡ true → ss ≡ []
no_session [] e = refl
no_session (s ∷ ss) e =
    let g = session_good shut s (tests.and_both (good_session shut s) (all_of (good_session shut) ss) e).0 in
    let known : get_or s.route 0 0 < length shut.links = route_known shut s.route g.route 0 (route_long shut s.route g.route).0 in
    absurd (no_schedule_lem s.route _ (omega (arith, known, one_link)) g.schedule)

-- WHERE `begin` REFUSED THE NETWORK NOTHING IS EVER HELD
pub nothing_held : NothingHeld
nothing_held network r k b e last steps run =
    let begun : (view_of r.state).network ≡ shut = ap topology_of (shut_begun network r b k e) in
    let on : (view_of last).network ≡ shut = runs_network (stored_by_rules r.state last steps run) ∙ begun in
    let good : all_of (good_session (view_of last).network) (view_of last).live ≡ true = (intact_is (view_of last) (begun_intact network r b last steps run)).sessions in
    no_session (view_of last).live (subst (λ (net : Topology). all_of (good_session net) (view_of last).live ≡ true) on good)

-- What a state that isn't broken shows, rule by rule, of its network, its sessions and their routes; and back. Assumes nothing.
use mathlib.Core.Path.{◌≡◌, refl, sym, ap, ◌∙◌}
use mathlib.Core.Bool.{Bool, true, false, not, ◌&&◌, false≢true}
use mathlib.Core.List.{List, []}
use Prim.Native.Nat.{ℕ, ◌≤◌}
use native.Mathlib.Omega.{arith}
use lib.ListN.{length, length-map}
use lib.Dec.{leb}
use borrow.Author.Tests.{le-leb, leb-true, not-true}
use Rattle.lists.proofs.Count as tests
use Rattle.refusals.specs.Refusals.{Ruling, given, refused, pass}
use Rattle.network.specs.Network.{Topology}
use Rattle.network.specs.Checks.{network_check}
use Rattle.forwarding.specs.declared.Hop.{Hop}
use Rattle.forwarding.specs.Forwarding.{Spot}
use Rattle.forwarding.specs.Schedule.{frames_of, colours_of, IsSchedule, is_schedule, schedule_delay}
use Rattle.forwarding.specs.Cycles.{schedule_cycles}
use Rattle.forwarding.proofs.Schedules.{told_schedule, schedule_told}
use Rattle.forwarding.proofs.Cycles.{cycle_per_hop}
use Rattle.ledger.specs.Lists.{all_of}
use Rattle.ledger.specs.Held.{Holding, held_over, spots_in, same_held}
use Rattle.ledger.specs.Sessions.{Session, View, hop_of, hops_of}
use Rattle.ledger.specs.Routes.{route_check}
use Rattle.ledger.specs.Sound.{passes, good_network, few_sessions, number_twice, good_held, good_session, frame_twice, sound, derived, intact}
use Rattle.ledger.specs.Demand.{fresh, FreshIntact}
use Rattle.ledger.proofs.Held.{frames_length, colours_length, frames_over, colours_over, cycles_over, same_is, is_same}

-- the test whether a check passes
pub passes_given : (r : Ruling) → passes r ≡ true → r ≡ given pass
passes_given (given pass) e = refl
passes_given (refused n) e = absurd (false≢true e)

pub given_passes : (r : Ruling) → r ≡ given pass → passes r ≡ true
given_passes r e = rw e

-- ---- a session that keeps the rules
pub record GoodSession (net : Topology) (s : Session) : Type 0 where
  pub route : route_check net s.route ≡ given pass
  pub schedule : IsSchedule (hops_of net [] s.route) (spots_in s.held)
  pub held : s.held ≡ held_over (hops_of net [] s.route)
      (schedule_delay net.ticks (hops_of net [] s.route) (spots_in s.held)) (spots_in s.held)

pub session_good : (net : Topology) (s : Session) → good_session net s ≡ true → GoodSession net s
unfolding good_session good_held
session_good net s e =
    let hops : List Hop = hops_of net [] s.route in
    let w : List Spot = spots_in s.held in
    let k : Bool = is_schedule hops w in
    let m : Bool = same_held s.held (held_over hops (schedule_delay net.ticks hops w) w) in
    let a = tests.and_both (passes (route_check net s.route)) (k && m) e in
    let b = tests.and_both k m a.1 in
    record {
      route = passes_given (route_check net s.route) a.0;
      schedule = told_schedule hops w b.0;
      held = same_is s.held (held_over hops (schedule_delay net.ticks hops w) w) b.1;
    }

pub good_session_lem : (net : Topology) (s : Session) → GoodSession net s → good_session net s ≡ true
unfolding good_session good_held
good_session_lem net s g =
    let hops : List Hop = hops_of net [] s.route in
    let w : List Spot = spots_in s.held in
    let k : Bool = is_schedule hops w in
    let m : Bool = same_held s.held (held_over hops (schedule_delay net.ticks hops w) w) in
    tests.both_and (passes (route_check net s.route)) (k && m) (given_passes (route_check net s.route) g.route)
    (tests.both_and k m (schedule_told hops w g.schedule) (is_same s.held (held_over hops (schedule_delay net.ticks hops w) w) g.held))

-- it has a frame and a cycle for each link, and the cycles are those of the frames
module _ (net : Topology) (s : Session) (g : GoodSession net s) where
  abbrev route_hops : List Hop
  route_hops = hops_of net [] s.route

  -- its frames are those of its schedule
  pub good_frames : s.held.frames ≡ frames_of (spots_in s.held)
  good_frames = ap (λ (h : Holding). h.frames) g.held ∙ frames_over route_hops (schedule_delay net.ticks route_hops (spots_in s.held)) (spots_in s.held)

  pub good_colours : s.held.colours ≡ colours_of (spots_in s.held)
  good_colours = ap (λ (h : Holding). h.colours) g.held ∙ colours_over route_hops (schedule_delay net.ticks route_hops (spots_in s.held)) (spots_in s.held)

  pub frame_each : length s.held.frames ≡ length s.route
  frame_each = ap (λ (l : List ℕ). length l) good_frames ∙ frames_length route_hops (spots_in s.held) g.schedule ∙ length-map s.route (hop_of net [])

  pub colour_each : length s.held.colours ≡ length s.route
  colour_each = ap (λ (l : List ℕ). length l) good_colours ∙ colours_length route_hops (spots_in s.held) g.schedule ∙ length-map s.route (hop_of net [])

  pub good_cycles : s.held.cycles ≡ schedule_cycles route_hops s.held.frames
  good_cycles =
      ap (λ (h : Holding). h.cycles) g.held
      ∙ cycles_over route_hops (schedule_delay net.ticks route_hops (spots_in s.held)) (spots_in s.held)
      ∙ ap (schedule_cycles route_hops) (sym good_frames)

  pub cycle_each : length s.held.cycles ≡ length s.route
  cycle_each =
      ap (λ (cs : List ℕ). length cs) (good_cycles ∙ ap (schedule_cycles route_hops) good_frames) ∙ cycle_per_hop route_hops (spots_in s.held) g.schedule ∙ length-map s.route (hop_of net [])

-- ---- a state that isn't broken
pub record Intact (net : Topology) (ss : List Session) : Type 0 where
  pub network : network_check net ≡ given pass
  pub few : length ss ≤ 96
  pub numbers : number_twice ss ≡ false
  pub sessions : all_of (good_session net) ss ≡ true
  pub frames : frame_twice ss ≡ false

pub intact_is : (v : View) → intact v ≡ true → Intact v.network v.live
unfolding intact sound good_network few_sessions
intact_is v e =
    let net : Topology = v.network in
    let ss : List Session = v.live in
    let f : Bool = not (frame_twice ss) in
    let g : Bool = all_of (good_session net) ss in
    let n : Bool = not (number_twice ss) in
    let a = tests.and_both (sound v) (derived v) e in
    let b = tests.and_both (passes (network_check net)) (leb (length ss) 96 && (n && (g && f))) a.0 in
    let c = tests.and_both (leb (length ss) 96) (n && (g && f)) b.1 in
    let d = tests.and_both n (g && f) c.1 in
    let h = tests.and_both g f d.1 in
    record {
      network = passes_given (network_check net) b.0;
      few = leb-true (length ss) 96 c.0;
      numbers = not-true (number_twice ss) d.0;
      sessions = h.0;
      frames = not-true (frame_twice ss) h.1;
    }

pub is_intact : (v : View) → Intact v.network v.live → intact v ≡ true
unfolding intact sound good_network few_sessions
is_intact v i =
    tests.both_and (sound v) (derived v)
    (rw (given_passes (network_check v.network) i.network, le-leb (length v.live) 96 i.few, i.numbers, i.sessions, i.frames)) refl

pub fresh_intact : FreshIntact
unfolding number_twice frame_twice
fresh_intact net e = is_intact (fresh net) record { network = e; few = omega arith; numbers = refl; sessions = refl; frames = refl }

-- W-202 at the calls: beside the frames of an answer and of a lookup stand their cycles. Assumes nothing.
use mathlib.Core.Path.{◌≡◌, refl, sym, ap, subst, ◌∙◌}
use mathlib.Core.List.{List, []}
use Prim.Native.Nat.{ℕ, suc, ◌<◌, ◌≤◌}
use native.Mathlib.Omega.{arith}
use lib.ListN.{length, length-map}
use Rattle.std.specs.Prelude.{Result, Ok}
use Rattle.places.specs.Places.{firsts}
use Rattle.places.proofs.Firsts.{get_d_firsts, firsts_back, so_many_back}
use Rattle.refusals.specs.Refusals.{Outcome, given, refused, pass}
use Rattle.refusals.specs.declared.Refusal.{Refusal}
use Rattle.network.specs.Network.{Topology, topology_of}
use Rattle.network.specs.Checks.{network_check}
use Rattle.forwarding.specs.declared.Hop.{Hop}
use Rattle.forwarding.specs.Hops.{AllReady}
use Rattle.forwarding.specs.Forwarding.{Spot}
use Rattle.forwarding.specs.Schedule.{frames_of, IsSchedule}
use Rattle.forwarding.specs.Cycles.{schedule_cycles, LaterHop, Keeps, Lies, Follows, NotBelow}
use Rattle.forwarding.proofs.Cycles.{schedules_keep, cycles_lie, cycles_follow, cycles_never_fall, cycles_bounded}
use Rattle.ledger.specs.Held.{Holding, spots_in, held_places}
use Rattle.ledger.specs.Sessions.{Session, hop_of, hops_of}
use Rattle.ledger.specs.Routes.{route_check}
use Rattle.ledger.specs.Calls.{links_of, Reply, schedule, freed, refusal, reply, lookup}
use Rattle.ledger.proofs.Held.{frames_length, frames_over, cycles_over, cycles_free}
use Rattle.ledger.proofs.Intact.{intact_is, good_frames, good_cycles}
use Rattle.ledger.proofs.Schedules.{schedule_unclosed}
use Rattle.ledger.proofs.Scheduled.{scheduled}
use Rattle.ledger.proofs.Shown.{lookup_given, shown_good}
use Rattle.routes.proofs.Routes.{route_long}
use Rattle.routes.proofs.Hops.{route_all_ready}
use Rattle.state.specs.State.{view_of, quoted_of, Quotes}
use Rattle.sessions.specs.declared.Shown.{Shown}
use Rattle.sessions.specs.Calls.{Tells, shown_of}
use Rattle.sessions.specs.Cycles.{CyclesBeside, LookupCycles, AnswerCycles}

-- what holds of every later hop holds of it in eight places
in_eight : (P : Hop → Hop → ℕ → ℕ → ℕ → ℕ → Type 0) (hops : List Hop) (fs cs : List ℕ) → length hops ≤ 8 → LaterHop P hops fs cs → LaterHop P hops (firsts 8 fs 0) (firsts 8 cs 0)
in_eight P hops fs cs few p j h =
    let l : j < 8 = omega arith in
    let m : suc j < 8 = omega arith in
    rw (get_d_firsts 8 j fs 0 l, get_d_firsts 8 (suc j) fs 0 m, get_d_firsts 8 j cs 0 l, get_d_firsts 8 (suc j) cs 0 m) (p j h)

-- what holds the frames of a schedule with their cycles, laid into eight places
module _ (net : Topology) (route : List ℕ) (held : Holding) (passed : network_check net ≡ given pass) (checked : route_check net route ≡ given pass)
    (xs : List Spot) (f : held.frames ≡ frames_of xs) (s : IsSchedule (hops_of net [] route) xs) (e : held.cycles ≡ schedule_cycles (hops_of net [] route) (frames_of xs)) where
  abbrev hops : List Hop
  hops = hops_of net [] route

  few : length route ≤ 8
  few = (route_long net route checked).1

  ready : AllReady net.ticks hops
  ready = route_all_ready net [] route passed checked

  -- of the schedule's cycles, and so of those that are held
  laid : (P : Hop → Hop → ℕ → ℕ → ℕ → ℕ → Type 0) → LaterHop P hops (frames_of xs) (schedule_cycles hops (frames_of xs)) → LaterHop P hops (firsts 8 held.frames 0) (firsts 8 held.cycles 0)
  laid P p = in_eight P hops held.frames held.cycles (omega (arith, few, length-map route (hop_of net []))) (rw (e, f) p)

  pub beside : CyclesBeside net route (held_places held)
  beside = record {
    cycles = ap (λ (cs : List ℕ). firsts 8 cs 0) (e ∙ ap (schedule_cycles hops) (sym (ap (λ (fs : List ℕ). firsts (length route) (firsts 8 fs 0) 0) f ∙ so_many_back 8 (length route) (frames_of xs) 0 (frames_length hops xs s ∙ length-map route (hop_of net [])) few)));
    keep = laid Keeps (schedules_keep net.ticks hops xs ready s);
    lie = laid Lies (cycles_lie net.ticks hops xs ready s);
    follow = laid (Follows net.ticks) (cycles_follow net.ticks hops xs ready s);
    never_fall = laid NotBelow (cycles_never_fall hops xs s);
    bounded = λ j h. rw (get_d_firsts 8 j held.cycles 0 (omega (arith, few)), e) (cycles_bounded hops (frames_of xs) j);
  }

-- A LOOKUP SHOWS THE CYCLES OF THE FRAMES SHOWN
pub lookup_cycles : LookupCycles
lookup_cycles st n q looks x p = go (lookup (view_of st) n) refl (subst (λ (a : Result Shown Refusal). Tells shown_of (lookup (view_of st) n) a) p looks.shown)
  where
    go : (o : Outcome Session) → lookup (view_of st) n ≡ o → Tells shown_of o (Ok x) → CyclesBeside (topology_of st.network) (firsts x.hops x.route 0) x.held
    go (given s) e t =
        let g = shown_good (view_of st) n s e in
        let net : Topology = topology_of st.network in
        let there : CyclesBeside net s.route (held_places s.held) =
        beside net s.route s.held (intact_is (view_of st) (lookup_given (view_of st) n s e).0).network g.route (spots_in s.held) (good_frames net s g) g.schedule (good_cycles net s g ∙ ap (schedule_cycles (hops_of net [] s.route)) (good_frames net s g)) in
        let same : x ≡ shown_of s = cc in
        rw (same, firsts_back 8 s.route 0 (route_long net s.route g.route).1) there
    go (refused k) e t = let z = t.2 in cc

-- AN ANSWER THAT IS A SCHEDULE GIVES THE CYCLES OF ITS FRAMES
pub answer_cycles : AnswerCycles
answer_cycles st call r serves q p = go (reply (view_of st) call) refl (subst (Quotes (reply (view_of st) call)) p serves.answer)
  where
    go : (x : Reply) → reply (view_of st) call ≡ x → Quotes x (Ok q) → CyclesBeside (topology_of st.network) (links_of call) q.held
    go (schedule held count) e t =
        let a = scheduled (view_of st) call held count e in
        let net : Topology = topology_of st.network in
        let hops : List Hop = hops_of net (view_of st).live (links_of call) in
        let f : held.frames ≡ frames_of a.spots = ap (λ (h : Holding). h.frames) a.gives ∙ frames_over hops a.delay a.spots in
        let c : held.cycles ≡ schedule_cycles (hops_of net [] (links_of call)) (frames_of a.spots) =
        ap (λ (h : Holding). h.cycles) a.gives ∙ cycles_over hops a.delay a.spots ∙ cycles_free net (view_of st).live (links_of call) (frames_of a.spots) in
        let s : IsSchedule (hops_of net [] (links_of call)) a.spots = schedule_unclosed net (view_of st).live (links_of call) a.spots a.schedule in
        let same : q ≡ quoted_of held count = cc in
        rw same (beside net (links_of call) held (intact_is (view_of st) a.unbroken).network a.passed a.spots f s c)
    go freed e t = absurd t
    go (refusal k count) e t = let z = t.3 in cc

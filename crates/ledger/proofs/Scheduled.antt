-- An answer that is a schedule: the state isn't broken, the route passed, and it gives what a schedule over the frames then free holds. Assumes nothing.
use mathlib.Core.Path.{◌≡◌, refl, sym, ap, ◌∙◌}
use mathlib.Core.Bool.{true}
use mathlib.Core.List.{List, []}
use Prim.Native.Nat.{ℕ, ◌≤◌}
use native.Mathlib.Omega.{arith}
use lib.ListN.{length, length-map}
use Rattle.refusals.specs.Refusals.{Ruling, given, refused, pass}
use Rattle.network.specs.Network.{Topology}
use Rattle.forwarding.specs.declared.Hop.{Hop}
use Rattle.forwarding.specs.Forwarding.{Spot}
use Rattle.forwarding.specs.Schedule.{IsSchedule}
use Rattle.ledger.specs.Held.{Holding, held_over, holding_of, held_places}
use Rattle.ledger.specs.Sessions.{Session, View, hop_of, hops_of}
use Rattle.ledger.specs.Routes.{route_check}
use Rattle.ledger.specs.Sound.{intact}
use Rattle.ledger.specs.Calls.{Call, links_of, SetUp, Quote, Release, Reply, schedule, freed, refusal, unless, call_check, granted, reply}
use Rattle.ledger.specs.Demand.{LeastOrBlocked, least, no_schedule}
use Rattle.ledger.proofs.Held.{held_stored}
use Rattle.ledger.proofs.Answered.{answer_on, reply_intact, admitted, call_due}
use Rattle.ledger.proofs.Quoted.{unbroken}

pub record Scheduled (v : View) (route : List ℕ) (held : Holding) : Type 0 where
  pub unbroken : intact v ≡ true
  pub passed : route_check v.network route ≡ given pass
  pub delay : ℕ
  pub spots : List Spot
  pub schedule : IsSchedule (hops_of v.network v.live route) spots
  pub gives : held ≡ held_over (hops_of v.network v.live route) delay spots

-- what a schedule gives
record Gives (hops : List Hop) (held : Holding) : Type 0 where
  delay : ℕ
  spots : List Spot
  schedule : IsSchedule hops spots
  gives : held ≡ held_over hops delay spots

least_gives : (T : ℕ) (hops : List Hop) {r : Reply} → LeastOrBlocked T hops r → (held : Holding) (count : ℕ) → r ≡ schedule held count → Gives hops held
least_gives T hops (least d n w e g) held count q = record { delay = d; spots = w; schedule = g.schedule; gives = cc }
least_gives T hops (no_schedule n e c nowhere) held count q = let z : ◌≡◌ {A = ℕ} 0 1 = cc in absurd (omega arith)

module _ (net : Topology) (ss : List Session) (held : Holding) (count : ℕ) where
  -- on a state that isn't broken
  answer_scheduled : (call : Call) → answer_on net ss call ≡ schedule held count → (route_check net (links_of call) ≡ given pass) × Gives (hops_of net ss (links_of call)) held
  answer_scheduled (SetUp n route) e = go (call_check net ss (SetUp n route)) refl e
    where
      go : (o : Ruling) → call_check net ss (SetUp n route) ≡ o → unless o (granted net ss (SetUp n route)) ≡ schedule held count
          → (route_check net route ≡ given pass) × Gives (hops_of net ss route) held
      go (given pass) w g = ((admitted net ss n route w).passed, least_gives net.ticks (hops_of net ss route) (call_due net ss (SetUp n route)) held count g)
      go (refused k) w g = let z : ◌≡◌ {A = ℕ} 0 1 = cc in absurd (omega arith)
  answer_scheduled (Quote route) e = go (call_check net ss (Quote route)) refl e
    where
      go : (o : Ruling) → call_check net ss (Quote route) ≡ o → unless o (granted net ss (Quote route)) ≡ schedule held count
          → (route_check net route ≡ given pass) × Gives (hops_of net ss route) held
      go (given pass) w g = (unfold call_check in w, least_gives net.ticks (hops_of net ss route) (call_due net ss (Quote route)) held count g)
      go (refused k) w g = let z : ◌≡◌ {A = ℕ} 0 1 = cc in absurd (omega arith)
  answer_scheduled (Release n) e = go (call_check net ss (Release n)) e
    where
      go : (o : Ruling) → unless o (granted net ss (Release n)) ≡ schedule held count → (route_check net [] ≡ given pass) × Gives (hops_of net ss []) held
      go (given pass) g = let q : freed ≡ schedule held count = unfold granted in g in let z : ◌≡◌ {A = ℕ} 0 1 = cc in absurd (omega arith)
      go (refused k) g = let z : ◌≡◌ {A = ℕ} 0 1 = cc in absurd (omega arith)

-- AN ANSWER THAT IS A SCHEDULE
pub scheduled : (v : View) (call : Call) (held : Holding) (count : ℕ) → reply v call ≡ schedule held count → Scheduled v (links_of call) held
scheduled v call held count e =
    let ok : intact v ≡ true = unbroken v call (λ q. clash (sym q ∙ e)) in
    let a = answer_scheduled v.network v.live held count call (sym (reply_intact v call ok) ∙ e) in
    record { unbroken = ok; passed = a.0; delay = a.1.delay; spots = a.1.spots; schedule = a.1.schedule; gives = a.1.gives }
  where
    clash : refusal 0 0 ≡ schedule held count → ⊥
    clash q = let z : ◌≡◌ {A = ℕ} 0 1 = cc in absurd (omega arith)

-- laid into eight places and read back it is the same
pub scheduled_back : (v : View) (route : List ℕ) (held : Holding) → Scheduled v route held → length route ≤ 8 → holding_of (length route) (held_places held) ≡ held
scheduled_back v route held s few =
    let hops : List Hop = hops_of v.network v.live route in
    let n : length hops ≡ length route = length-map route (hop_of v.network v.live) in
    ap (λ (h : Holding). holding_of (length route) (held_places h)) s.gives
    ∙ ap (λ (k : ℕ). holding_of k (held_places (held_over hops s.delay s.spots))) (sym n)
    ∙ held_stored hops s.delay s.spots s.schedule (omega (arith, n, few))
    ∙ sym s.gives

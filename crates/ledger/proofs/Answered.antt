-- What a call answers on a state that isn't broken, and what is due over the hops of a route. Assumes nothing.
use mathlib.Core.Path.{◌≡◌, refl, subst}
use mathlib.Core.Bool.{true, false}
use mathlib.Core.List.{List}
use Prim.Native.Nat.{ℕ}
use Rattle.trellis.specs.Answer.{found, blocked}
use Rattle.trellis.specs.Answer as trellis
use Rattle.refusals.specs.Refusals.{given, pass, refuse_if, refused_or}
use Rattle.refusals.proofs.Refusals.{past, not_refused, both_passed}
use Rattle.network.specs.Network.{Topology}
use Rattle.forwarding.specs.declared.Hop.{Hop}
use Rattle.forwarding.specs.Forwarding.{Spot}
use Rattle.forwarding.specs.Route.{route_answer}
use Rattle.forwarding.specs.LeastDelay.{RouteAnswer}
use Rattle.forwarding.proofs.Answers.{answer_rules, found_given}
use Rattle.ledger.specs.Sessions.{Session, View, is_live, hops_of}
use Rattle.ledger.specs.Routes.{route_check}
use Rattle.ledger.specs.Sound.{intact}
use Rattle.ledger.specs.Calls.{Call, SetUp, Quote, Release, Reply, reply_of, answer_over, unless, full, call_check, granted, reply}
use Rattle.ledger.specs.Demand.{LeastOrBlocked, least, no_schedule, Due}

-- the answer of a call where 0 doesn't refuse
abbrev pub answer_on : Topology → List Session → Call → Reply
answer_on net ss call = unless (call_check net ss call) (granted net ss call)

pub reply_intact : (v : View) (call : Call) → intact v ≡ true → reply v call ≡ answer_on v.network v.live call
unfolding reply
reply_intact v call e = rw e

-- what a set-up shows that no check refused
pub record Admitted (net : Topology) (ss : List Session) (n : ℕ) (route : List ℕ) : Type 0 where
  pub passed : route_check net route ≡ given pass
  pub unused : is_live n ss ≡ false
  pub room : full ss ≡ false

pub admitted : (net : Topology) (ss : List Session) (n : ℕ) (route : List ℕ) → call_check net ss (SetUp n route) ≡ given pass → Admitted net ss n route
unfolding call_check
admitted net ss n route e =
    let a = both_passed (route_check net route) (refused_or (refuse_if (is_live n ss) 16) (refuse_if (full ss) 17)) e in
    let b = past (is_live n ss) 16 (refuse_if (full ss) 17) pass a.1 in
    record { passed = a.0; unused = b.0; room = not_refused (full ss) 17 b.1 }

-- ---- the answer over hops
least_or_blocked : (T : ℕ) (hops : List Hop) → LeastOrBlocked T hops (answer_over T hops)
least_or_blocked T hops = go (route_answer T hops) refl
  where
    go : (a : trellis.Answer Spot) → route_answer T hops ≡ a → LeastOrBlocked T hops (reply_of hops a)
    go (found d n w) e = least d n w e (found_given T hops d n w e)
    go (blocked n) e =
        let b : RouteAnswer T hops (blocked n) = subst (RouteAnswer T hops) e (answer_rules T hops) in
        no_schedule n e b.1 b.0

-- WHAT IS GRANTED IS DUE: a least schedule over the frames then free, or blocked where there is none
pub call_due : (net : Topology) (ss : List Session) (call : Call) → Due net ss call (granted net ss call)
unfolding granted
call_due net ss (SetUp n route) = least_or_blocked net.ticks (hops_of net ss route)
call_due net ss (Quote route) = least_or_blocked net.ticks (hops_of net ss route)
call_due net ss (Release n) = refl

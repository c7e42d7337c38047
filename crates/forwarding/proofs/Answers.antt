-- The answer of a route in document 01's words. Assumes nothing.
use mathlib.Core.Path.{◌≡◌, sym, subst}
use mathlib.Core.List.{List, [], ◌∷◌}
use Prim.Native.Nat.{ℕ, ◌≤◌}
use native.Mathlib.Omega.{arith}
use Rattle.lists.specs.Order.{Precedes}
use Rattle.lists.proofs.Order.{precedes_head}
use Rattle.trellis.specs.Answer.{Answer, found, blocked, renamed, answer}
use Rattle.trellis.proofs.Forwards.{Says, answer_says, says_only}
use Rattle.forwarding.specs.declared.Hop.{Hop}
use Rattle.forwarding.specs.Forwarding.{Spot}
use Rattle.forwarding.specs.Schedule.{IsSchedule, schedule_delay, schedule_key, going_back, CountOf}
use Rattle.forwarding.specs.Route.{nodes_on, spots_on, route_trellis, transitions, route_answer}
use Rattle.forwarding.specs.LeastDelay.{RouteAnswer, AnswerRules, AnswerUnique, FoundGiven, BlockedNone, NoneBlocked}
use Rattle.forwarding.proofs.Schedules.{schedules_paths}
use Rattle.forwarding.proofs.Counted.{count_only, transitions_counted}

module _ (T : ℕ) (hops : List Hop) where
  -- what an answer says of the paths of the trellis, and of schedules
  abbrev Said : Answer Spot → Type 0
  Said = Says Spot (route_trellis T hops) (IsSchedule hops) (nodes_on hops) (spots_on hops) (schedule_delay T hops) (schedule_key T hops) (schedules_paths T hops)

  counted : (n : ℕ) → n ≡ transitions T hops → CountOf hops n
  counted n e = rw e (transitions_counted T hops)

  is_count : (n : ℕ) → CountOf hops n → n ≡ transitions T hops
  is_count n c = count_only hops n (transitions T hops) c (transitions_counted T hops)

  said_answer : (a : Answer Spot) → Said a → RouteAnswer T hops a
  said_answer (found d n fs) s = (record { schedule = s.0.0; first = s.0.1 }, s.1, counted n s.2)
  said_answer (blocked n) s = (s.0, counted n s.1)

  answer_said : (a : Answer Spot) → RouteAnswer T hops a → Said a
  answer_said (found d n fs) r = ((r.0.schedule, r.0.first), r.1, is_count n r.2)
  answer_said (blocked n) r = (r.0, is_count n r.1)

-- THE ANSWER IS THE LEAST SCHEDULE, ties as written, or blocked where there is none; and it is the
-- only one
pub answer_rules : AnswerRules
unfolding route_answer
answer_rules T hops =
    said_answer T hops (renamed (spots_on hops) (answer (route_trellis T hops)))
    (answer_says Spot (route_trellis T hops) (IsSchedule hops) (nodes_on hops) (spots_on hops) (schedule_delay T hops) (schedule_key T hops) (schedules_paths T hops))

pub answer_unique : AnswerUnique
unfolding route_answer
answer_unique T hops a r =
    says_only Spot (route_trellis T hops) (IsSchedule hops) (nodes_on hops) (spots_on hops) (schedule_delay T hops) (schedule_key T hops) (schedules_paths T hops) a (answer_said T hops a r)

-- the first of all has the least delay
first_delay : (T : ℕ) (hops : List Hop) (fs gs : List Spot) → IsSchedule hops fs → IsSchedule hops gs → Precedes (schedule_key T hops fs) (schedule_key T hops gs)
    → schedule_delay T hops fs ≤ schedule_delay T hops gs
first_delay T [] fs gs s t p = absurd s
first_delay T (h ∷ hs) [] gs s t p = absurd s
first_delay T (h ∷ hs) (k ∷ is) [] s t p = absurd t
first_delay T (h ∷ hs) (k ∷ is) (j ∷ js) s t p =
    precedes_head (schedule_delay T (h ∷ hs) (k ∷ is)) (schedule_delay T (h ∷ hs) (j ∷ js)) (going_back h k hs is) (going_back h j hs js) p

-- A SCHEDULE THAT IS FOUND IS LEAST: every other has at least its delay
pub found_given : FoundGiven
found_given T hops d n fs e =
    let a : RouteAnswer T hops (found d n fs) = subst (RouteAnswer T hops) e (answer_rules T hops) in
    record {
      schedule = a.0.schedule;
      delay_is = a.1;
      count_is = a.2;
      least = λ gs s. omega (arith, first_delay T hops fs gs a.0.schedule s (a.0.first gs s), a.1);
    }

-- BLOCKED EXACTLY WHEN THERE IS NO SCHEDULE
pub blocked_none : BlockedNone
blocked_none T hops n e = (subst (RouteAnswer T hops) e (answer_rules T hops)).0

pub none_blocked : NoneBlocked
none_blocked T hops n none c = sym (answer_unique T hops (blocked n) (none, c))

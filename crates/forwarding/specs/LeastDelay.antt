-- THE ANSWER of a route in document 01's words, and its bounds. Assumes nothing.
use Rattle.std.specs.Prelude.{◌≡◌, List, [], ◌∷◌, ℕ, ◌*◌, ◌≤◌, length}
use Rattle.trellis.specs.Answer.{Answer, found, blocked}
use Rattle.forwarding.specs.declared.Hop.{Hop}
use Rattle.forwarding.specs.Forwarding.{Spot}
use Rattle.forwarding.specs.Schedule.{IsSchedule, schedule_delay, LeastSchedule, CountOf, transition_bound, OneColour, plain_bound}
use Rattle.forwarding.specs.Hops.{AllReady}
use Rattle.forwarding.specs.Route.{route_answer}

-- `found d n xs`: xs is the least schedule, d its delay; `blocked n`: there is no schedule; n is
-- the count of transitions considered
abbrev pub RouteAnswer : ℕ → List Hop → Answer Spot → Type 0
RouteAnswer T hops (found d n xs) = LeastSchedule T hops xs × (schedule_delay T hops xs ≡ d) × CountOf hops n
RouteAnswer T hops (blocked n) = ((xs : List Spot) → IsSchedule hops xs → ⊥) × CountOf hops n

-- `route_answer` IS AN ANSWER IN THESE WORDS, AND THERE IS NO OTHER
abbrev pub AnswerRules : Type 0
AnswerRules = (T : ℕ) (hops : List Hop) → RouteAnswer T hops (route_answer T hops)

abbrev pub AnswerUnique : Type 0
AnswerUnique = (T : ℕ) (hops : List Hop) (a : Answer Spot) → RouteAnswer T hops a → a ≡ route_answer T hops

-- a schedule with its delay and count, and no schedule has a smaller delay
pub record Given (T : ℕ) (hops : List Hop) (d n : ℕ) (xs : List Spot) : Type 0 where
  pub schedule : IsSchedule hops xs
  pub delay_is : schedule_delay T hops xs ≡ d
  pub count_is : CountOf hops n
  pub least : (ys : List Spot) → IsSchedule hops ys → d ≤ schedule_delay T hops ys

-- A SCHEDULE THAT IS FOUND IS LEAST: every other has at least its delay
abbrev pub FoundGiven : Type 0
FoundGiven = (T : ℕ) (hops : List Hop) (d n : ℕ) (xs : List Spot) → route_answer T hops ≡ found d n xs → Given T hops d n xs

-- BLOCKED EXACTLY WHEN THERE IS NO SCHEDULE
abbrev pub BlockedNone : Type 0
BlockedNone = (T : ℕ) (hops : List Hop) (n : ℕ) → route_answer T hops ≡ blocked n → (xs : List Spot) → IsSchedule hops xs → ⊥

abbrev pub NoneBlocked : Type 0
NoneBlocked = (T : ℕ) (hops : List Hop) (n : ℕ) → ((xs : List Spot) → IsSchedule hops xs → ⊥) → CountOf hops n → route_answer T hops ≡ blocked n

-- THE COUNT'S BOUND: "over K × C of the hop before times the hold choices times 2R + 1" (W-211)
abbrev pub CountBound : Type 0
CountBound = (T : ℕ) (hops : List Hop) (n : ℕ) → AllReady T hops → CountOf hops n → n ≤ transition_bound hops

-- OVER LINKS OF ONE COLOUR it is the sum of K of hop j−1 times the hold choices of hop j
abbrev pub BoundOneColour : Type 0
BoundOneColour = (T : ℕ) (hops : List Hop) → AllReady T hops → OneColour hops → transition_bound hops ≡ plain_bound hops

-- "0 for one hop"
abbrev pub DelayOneHop : Type 0
DelayOneHop = (T : ℕ) (h : Hop) (xs : List Spot) → schedule_delay T (h ∷ []) xs ≡ 0

-- a cycle for each later hop at most
abbrev pub DelayWithin : Type 0
DelayWithin = (T : ℕ) (h : Hop) (hs : List Hop) (xs : List Spot) → AllReady T hs → IsSchedule (h ∷ hs) xs → schedule_delay T (h ∷ hs) xs ≤ length hs * T

-- "at most 7 × 960", for a route of at most 8 links and a cycle of at most 960 ticks
abbrev pub DelayBound : Type 0
DelayBound = (T : ℕ) (hops : List Hop) (xs : List Spot) → T ≤ 960 → length hops ≤ 8 → AllReady T hops → IsSchedule hops xs → schedule_delay T hops xs ≤ 7 * 960

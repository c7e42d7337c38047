-- A route as a trellis: a stage for each hop, a node for each frame in each colour; its schedules
-- are the paths. Of this crate's statements only `SchedulesArePaths` names nodes. Assumes nothing.
use Rattle.std.specs.Prelude.{Bool, true, false, List, [], ◌∷◌, ℕ, ◌+◌, ◌*◌, ◌/◌, ◌%◌}
use Rattle.trellis.specs.Trellis.{Reach, never, after, Stage, Trellis, entry, grow}
use Rattle.trellis.specs.Considered.{considered}
use Rattle.trellis.specs.Answer.{Answer, renamed, answer}
use Rattle.trellis.specs.Forwards.{ArePaths}
use Rattle.forwarding.specs.declared.Hop.{Hop}
use Rattle.forwarding.specs.Forwarding.{Spot, is_free, hold_into, is_allowed, delay}
use Rattle.forwarding.specs.Schedule.{IsSchedule, schedule_delay, schedule_key, CountOf}

-- nodes are numbered frame × C + colour, which orders them by frame and then by colour
abbrev pub nodes : Hop → ℕ
nodes h = h.frames * h.colours

abbrev pub node_at : Hop → Spot → ℕ
node_at h x = x.frame * h.colours + x.colour

abbrev pub spot_at : Hop → ℕ → Spot
spot_at h n = record { frame = n / h.colours; colour = n % h.colours }

-- the nodes of a list of spots and back, hop by hop
abbrev pub nodes_on : List Hop → List Spot → List ℕ
nodes_on [] xs = []
nodes_on (h ∷ hs) [] = []
nodes_on (h ∷ hs) (x ∷ xs) = node_at h x ∷ nodes_on hs xs

abbrev pub spots_on : List Hop → List ℕ → List Spot
spots_on [] ns = []
spots_on (h ∷ hs) [] = []
spots_on (h ∷ hs) (n ∷ ns) = spot_at h n ∷ spots_on hs ns

-- hop 0: a schedule begins at a free spot, at no delay
abbrev pub start_if : Bool → Reach
start_if true = after 0
start_if false = never

abbrev pub starts : Hop → ℕ → Reach
starts h n = start_if (is_free h (spot_at h n))

-- from the hop g into the hop h: a step for each allowed transition, at the cost of its hold, the
-- smaller hold first among equal costs
abbrev pub stage_of : (ℕ → ℕ) → Hop → Hop → Stage
stage_of cost g h = record {
  size = nodes h;
  allowed = λ k i. is_allowed g h (spot_at g k) (spot_at h i);
  cost = λ k i. cost (hold_into g h (k / g.colours) (i / h.colours));
  rank = λ k i. hold_into g h (k / g.colours) (i / h.colours);
}

-- a hold costs its delay in ticks
abbrev pub stage : ℕ → Hop → Hop → Stage
stage T g h = stage_of (delay T h.frames) g h

-- the hops after the hop g
abbrev pub stages : ℕ → Hop → List Hop → List Stage
stages T g [] = []
stages T g (h ∷ hs) = stage T g h ∷ stages T h hs

-- without links, which refusal 12 excludes: a trellis without nodes
abbrev pub route_trellis : ℕ → List Hop → Trellis
route_trellis T [] = entry 0 (λ i. never)
route_trellis T (h ∷ hs) = grow (entry (nodes h) (starts h)) (stages T h hs)

-- THE SCHEDULES OF A ROUTE ARE THE PATHS OF ITS TRELLIS, with their delays and in their order
abbrev pub SchedulesArePaths : Type 0
SchedulesArePaths = (T : ℕ) (hops : List Hop) → ArePaths Spot (route_trellis T hops) (IsSchedule hops) (nodes_on hops) (spots_on hops) (schedule_delay T hops) (schedule_key T hops)

-- the count of transitions considered, by the trellis; it is the rule's
abbrev pub transitions : ℕ → List Hop → ℕ
transitions T hops = considered (route_trellis T hops)

abbrev pub TransitionsCounted : Type 0
TransitionsCounted = (T : ℕ) (hops : List Hop) → CountOf hops (transitions T hops)

-- the answer of a route: the least of the list of all paths; `specs/LeastDelay` states it in
-- document 01's words
unfoldable pub route_answer : ℕ → List Hop → Answer Spot
route_answer T hops = renamed (spots_on hops) (answer (route_trellis T hops))

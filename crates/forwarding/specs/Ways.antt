-- W-203, "How many ways through": the list of all schedules of a route, and its length.
-- Assumes nothing.
use Rattle.std.specs.Prelude.{◌≡◌, true, ◌↔◌, ℕ, ◌*◌, ◌^◌, ◌≤◌, length}
use mathlib.Core.List.{List, [], ◌∷◌, map, Memᴰ}
use Rattle.lists.specs.Once.{EachOnce}
use Rattle.trellis.specs.Paths.{list_if, gather}
use Rattle.trellis.specs.Answer.{blocked}
use Rattle.forwarding.specs.declared.Hop.{Hop}
use Rattle.forwarding.specs.Forwarding.{Spot, IsOn, is_free, is_allowed, choices}
use Rattle.forwarding.specs.Hops.{AllReady}
use Rattle.forwarding.specs.Schedule.{IsSchedule, OneColour}
use Rattle.forwarding.specs.Route.{nodes, spot_at, route_answer}
use Rattle.forwarding.specs.QuestionFour.{Case, starred}

-- `gather n` appends the lists of the numbers below n, the nodes of a hop; `list_if` leaves out
-- those of a spot that fails its test. `SchedulesListed` and `SchedulesOnce` state what the list is

-- all lists of spots that go on from x on the hop g: "an allowed transition into each later hop"
abbrev pub ways_on : Hop → Spot → List Hop → List (List Spot)
ways_on g x [] = [] ∷ []
ways_on g x (h ∷ hs) = gather (nodes h) (λ i. list_if (is_allowed g h x (spot_at h i)) (map (λ ys. spot_at h i ∷ ys) (ways_on h (spot_at h i) hs)))

-- THE LIST OF ALL SCHEDULES of a route: "a free frame at hop 0", and all ways on from it
unfoldable pub schedules : List Hop → List (List Spot)
schedules [] = []
schedules (h ∷ hs) = gather (nodes h) (λ k. list_if (is_free h (spot_at h k)) (map (λ ys. spot_at h k ∷ ys) (ways_on h (spot_at h k) hs)))

-- A LIST OF SPOTS IS A MEMBER EXACTLY WHEN IT IS A SCHEDULE
abbrev pub SchedulesListed : Type 0
SchedulesListed = (hops : List Hop) (xs : List Spot) → Memᴰ xs (schedules hops) ↔ IsSchedule hops xs

-- "each once"
abbrev pub SchedulesOnce : Type 0
SchedulesOnce = (hops : List Hop) → EachOnce (schedules hops)

-- THE NUMBER OF WAYS: "the exact number of schedules over a route in the frames now free"
unfoldable pub route_ways : List Hop → ℕ
route_ways hops = length (schedules hops)

-- AND OF EVERY OTHER LIST that has each schedule once and nothing else
abbrev pub WaysOnly : Type 0
WaysOnly = (hops : List Hop) (list : List (List Spot)) → EachOnce list → ((xs : List Spot) → Memᴰ xs list ↔ IsSchedule hops xs) → length list ≡ route_ways hops

-- "The count is 0 exactly when a quote is refused as blocked", of the answer over the same hops
abbrev pub WaysBlocked : Type 0
WaysBlocked = (T : ℕ) (hops : List Hop) → (route_ways hops ≡ 0) ↔ ((n : ℕ) × (route_answer T hops ≡ blocked n))

-- "no frame on it is closed or held": each frame of each hop is free in each colour
abbrev pub EveryFrameFree : List Hop → Type 0
EveryFrameFree [] = Unit {0}
EveryFrameFree (h ∷ hs) = ((x : Spot) → IsOn h x → is_free h x ≡ true) × EveryFrameFree hs

-- "the product of the later Z", where W-206 uses "Z − Y + 1 for Z"
abbrev pub later_choices : List Hop → ℕ
later_choices [] = 1
later_choices (h ∷ hs) = choices h * later_choices hs

-- "K of hop 0 times the product of the later" Z − Y + 1
abbrev pub open_ways : List Hop → ℕ
open_ways [] = 0
open_ways (h ∷ hs) = h.frames * later_choices hs

-- "Where no frame on it is closed or held this equals K of hop 0 times the product of the later"
-- Z − Y + 1; "its product formula remains for routes of one colour" (W-211)
abbrev pub WaysOpen : Type 0
WaysOpen = (T : ℕ) (hops : List Hop) → AllReady T hops → OneColour hops → EveryFrameFree hops → route_ways hops ≡ open_ways hops

-- "The number of ways can now be 2 to the power 64" (W-211), for a route of at most 8 links
abbrev pub WaysMost : Type 0
WaysMost = (T : ℕ) (hops : List Hop) → length hops ≤ 8 → AllReady T hops → route_ways hops ≤ 256 ^ 8

-- and over links of one colour each "The largest number is 64 to the power 8" (W-203)
abbrev pub WaysOneColour : Type 0
WaysOneColour = (T : ℕ) (hops : List Hop) → length hops ≤ 8 → AllReady T hops → OneColour hops → route_ways hops ≤ 64 ^ 8

-- the ways of the starred routes of question four, row by row, counted by hand
abbrev pub StarredWays : Type 0
StarredWays = map (λ (c : Case). route_ways c.route) starred ≡ 8 ∷ 0 ∷ 16 ∷ 24 ∷ 1 ∷ 0 ∷ 0 ∷ 1 ∷ 2 ∷ 1 ∷ 2 ∷ 0 ∷ 1 ∷ 1 ∷ 0 ∷ 2 ∷ []

-- Document 01, "Least-delay schedule", with W-211: schedules, their delay, their order, and the
-- transitions considered. Assumes nothing.
use Rattle.std.specs.Prelude.{◌≡◌, Bool, true, false, ◌&&◌, ◌↔◌, ℕ, suc, ◌+◌, ◌*◌, ◌<◌, ltb, length, take, get_or}
use mathlib.Core.List.{List, [], ◌∷◌, ◌++◌, map, Memᴰ}
use Rattle.lists.specs.Order.{Precedes}
use Rattle.lists.specs.Once.{EachOnce}
use Rattle.forwarding.specs.declared.Hop.{Hop}
use Rattle.forwarding.specs.Forwarding.{Spot, IsOn, is_free, hold_into, is_allowed, choices, turn_choices, delay}
use Rattle.forwarding.specs.Hops.{no_hop}

-- the frames and the colours of a list of spots
abbrev pub frames_of : List Spot → List ℕ
frames_of xs = map (λ (x : Spot). x.frame) xs

abbrev pub colours_of : List Spot → List ℕ
colours_of xs = map (λ (x : Spot). x.colour) xs

-- the spots of frames and colours, place by place
abbrev pub in_colours : List ℕ → List ℕ → List Spot
in_colours [] cs = []
in_colours (i ∷ is) [] = []
in_colours (i ∷ is) (c ∷ cs) = record { frame = i; colour = c } ∷ in_colours is cs

-- FRAMES AND COLOURS DETERMINE THE LIST
abbrev pub ColoursJoined : Type 0
ColoursJoined = (xs : List Spot) → in_colours (frames_of xs) (colours_of xs) ≡ xs

-- ys go on from x on the hop g: "an allowed transition into each later hop", to a spot of that hop
abbrev pub GoesOn : Hop → Spot → List Hop → List Spot → Type 0
GoesOn g x [] [] = Unit {0}
GoesOn g x [] (y ∷ ys) = ⊥
GoesOn g x (h ∷ hs) [] = ⊥
GoesOn g x (h ∷ hs) (y ∷ ys) = IsOn h y × (is_allowed g h x y ≡ true) × GoesOn h y hs ys

-- A SCHEDULE, a spot for each hop of a route, hop 0 first: "a free frame at hop 0 and an allowed
-- transition into each later hop"
abbrev pub IsSchedule : List Hop → List Spot → Type 0
IsSchedule [] xs = ⊥
IsSchedule (h ∷ hs) [] = ⊥
IsSchedule (h ∷ hs) (x ∷ ys) = IsOn h x × (is_free h x ≡ true) × GoesOn h x hs ys

-- the same as tests
abbrev pub is_on : Hop → Spot → Bool
is_on h x = ltb x.frame h.frames && ltb x.colour h.colours

abbrev pub goes_on : Hop → Spot → List Hop → List Spot → Bool
goes_on g x [] [] = true
goes_on g x [] (y ∷ ys) = false
goes_on g x (h ∷ hs) [] = false
goes_on g x (h ∷ hs) (y ∷ ys) = is_on h y && (is_allowed g h x y && goes_on h y hs ys)

abbrev pub is_schedule : List Hop → List Spot → Bool
is_schedule [] xs = false
is_schedule (h ∷ hs) [] = false
is_schedule (h ∷ hs) (x ∷ ys) = is_on h x && (is_free h x && goes_on h x hs ys)

-- THE TEST TELLS SCHEDULES, and nothing else
abbrev pub TestTells : Type 0
TestTells = (hops : List Hop) (xs : List Spot) → (is_schedule hops xs ≡ true) ↔ IsSchedule hops xs

-- "Its delay is the sum, 0 for one hop": the sum of the holds' delays after x on the hop g, for a
-- cycle of T ticks
abbrev pub onward_delay : ℕ → Hop → Spot → List Hop → List Spot → ℕ
onward_delay T g x [] ys = 0
onward_delay T g x (h ∷ hs) [] = 0
onward_delay T g x (h ∷ hs) (y ∷ ys) = delay T h.frames (hold_into g h x.frame y.frame) + onward_delay T h y hs ys

abbrev pub schedule_delay : ℕ → List Hop → List Spot → ℕ
schedule_delay T [] xs = 0
schedule_delay T (h ∷ hs) [] = 0
schedule_delay T (h ∷ hs) (x ∷ ys) = onward_delay T h x hs ys

-- "Among equals: last frame, last colour, then going back the hold, the preceding frame, the
-- preceding colour, smaller first" (W-211): these numbers in this order, back to x on the hop g
abbrev pub going_back : Hop → Spot → List Hop → List Spot → List ℕ
going_back g x [] ys = x.frame ∷ x.colour ∷ []
going_back g x (h ∷ hs) [] = x.frame ∷ x.colour ∷ []
going_back g x (h ∷ hs) (y ∷ ys) = going_back h y hs ys ++ (hold_into g h x.frame y.frame ∷ x.frame ∷ x.colour ∷ [])

-- the key of a schedule: its delay, then those; the first difference decides
abbrev pub schedule_key : ℕ → List Hop → List Spot → List ℕ
schedule_key T [] xs = []
schedule_key T (h ∷ hs) [] = []
schedule_key T (h ∷ hs) (x ∷ ys) = schedule_delay T (h ∷ hs) (x ∷ ys) ∷ going_back h x hs ys

-- "The answer is a schedule of least delay", ties as written: it is first among all
pub record LeastSchedule (T : ℕ) (hops : List Hop) (xs : List Spot) : Type 0 where
  pub schedule : IsSchedule hops xs
  pub first : (ys : List Spot) → IsSchedule hops ys → Precedes (schedule_key T hops xs) (schedule_key T hops ys)

-- a transition from `from` on hop number `hop` to `to` on the hop after it
pub record Transition : Type 0 where
  pub hop : ℕ
  pub from : Spot
  pub to : Spot

-- "a frame of hop j−1 that ends some schedule of hops 0 to j−1, and a frame of hop j to which a
-- transition is allowed", "over pairs of frame and colour" (W-211)
pub record IsConsidered (hops : List Hop) (t : Transition) : Type 0 where
  pub later : suc t.hop < length hops
  pub before : List Spot
  pub ends : IsSchedule (take (suc t.hop) hops) (before ++ (t.from ∷ []))
  pub on : IsOn (get_or hops (suc t.hop) no_hop) t.to
  pub allowed : is_allowed (get_or hops t.hop no_hop) (get_or hops (suc t.hop) no_hop) t.from t.to ≡ true

-- "the count of transitions considered": the length of a list that has each of them once and
-- nothing else
pub record CountOf (hops : List Hop) (n : ℕ) : Type 0 where
  pub pairs : List Transition
  pub once : EachOnce pairs
  pub each : (t : Transition) → Memᴰ t pairs ↔ IsConsidered hops t
  pub number : n ≡ length pairs

-- THE COUNT IS ONE NUMBER
abbrev pub CountOnly : Type 0
CountOnly = (hops : List Hop) (n m : ℕ) → CountOf hops n → CountOf hops m → n ≡ m

-- "summed over K × C of the hop before times the hold choices times 2R + 1" (W-211), after g
abbrev pub bound_from : Hop → List Hop → ℕ
bound_from g [] = 0
bound_from g (h ∷ hs) = g.frames * g.colours * (choices h * turn_choices h) + bound_from h hs

abbrev pub transition_bound : List Hop → ℕ
transition_bound [] = 0
transition_bound (h ∷ hs) = bound_from h hs

-- each link has one colour
abbrev pub OneColour : List Hop → Type 0
OneColour [] = Unit {0}
OneColour (h ∷ hs) = (h.colours ≡ 1) × OneColour hs

-- the bound over links of one colour: "the sum of K of hop j−1 times" Z − Y + 1 of hop j
abbrev pub plain_from : Hop → List Hop → ℕ
plain_from g [] = 0
plain_from g (h ∷ hs) = g.frames * choices h + plain_from h hs

abbrev pub plain_bound : List Hop → ℕ
plain_bound [] = 0
plain_bound (h ∷ hs) = plain_from h hs

-- W-211 in a table of our own beside question four: routes whose links have colours, each answer
-- worked out by hand. Assumes nothing.
use Rattle.std.specs.Prelude.{◌≡◌, ℕ, ◌^◌, length}
use mathlib.Core.List.{List, [], ◌∷◌, Memᴰ}
use Rattle.trellis.specs.Answer.{Answer, found, blocked}
use Rattle.forwarding.specs.declared.Hop.{Hop}
use Rattle.forwarding.specs.Forwarding.{Spot}
use Rattle.forwarding.specs.Schedule.{transition_bound}
use Rattle.forwarding.specs.Route.{route_answer}

-- a route, its answer (delay, count and frames in colours, or blocked and count), its count's bound
pub record Coloured : Type 0 where
  pub route : List Hop
  pub expected : Answer Spot
  pub bound : ℕ

abbrev case : List Hop → Answer Spot → ℕ → Coloured
case hops a n = record { route = hops; expected = a; bound = n }

-- a link with K frames, Z 2, Y 1, conversion range R, and a word of free frames for each colour
abbrev link : ℕ → ℕ → List ℕ → Hop
link K R free = record { frames = K; range = 2; least = 1; colours = length free; turn = R; free = free }

-- K 8, and R 0 or R: a hold of 1 leads from frame i to i + 1, one of 2 to i + 2, at 6 ticks a frame
abbrev keeps : List ℕ → Hop
keeps = link 8 0

abbrev turns : ℕ → List ℕ → Hop
turns = link 8

-- words of free frames: frame i alone, none, all eight
abbrev at : ℕ → ℕ
at i = 2 ^ i

abbrev none : ℕ
none = 0

abbrev all : ℕ
all = 255

abbrev on : ℕ → ℕ → Spot
on i c = record { frame = i; colour = c }

-- In the comments 3.1 is frame 3 in colour 1. Bounds: K × C of the hop before × 2 holds × (2R + 1)
unfoldable pub coloured : List Coloured
coloured =
    -- R 0 keeps the colour: 3.1 4.1 is the only schedule
    case (keeps (at 3 ∷ at 3 ∷ []) ∷ keeps (none ∷ at 4 ∷ []) ∷ []) (found 6 1 (on 3 1 ∷ on 4 1 ∷ [])) 32
    -- R 1: 3.0 and 3.1 lead to 4.1 with equal holds; the smaller preceding colour wins
    ∷ case (keeps (at 3 ∷ at 3 ∷ []) ∷ turns 1 (none ∷ at 4 ∷ []) ∷ []) (found 6 2 (on 3 0 ∷ on 4 1 ∷ [])) 96
    -- "Entering a link, ... its R": the R of the link left, 1, does not count
    ∷ case (turns 1 (at 3 ∷ none ∷ []) ∷ keeps (none ∷ at 4 ∷ []) ∷ []) (blocked 0) 32
    -- C 1 into C 2, R 0: colour 0 leads to colour 0 only
    ∷ case (keeps (at 3 ∷ []) ∷ keeps (none ∷ at 4 ∷ []) ∷ []) (blocked 0) 16
    -- C 4 into C 2, R 1: colour 3 leads to none, colour 2 to colour 1 only
    ∷ case (keeps (none ∷ none ∷ none ∷ at 3 ∷ []) ∷ turns 1 (at 4 ∷ at 4 ∷ []) ∷ []) (blocked 0) 192
    ∷ case (keeps (none ∷ none ∷ at 3 ∷ none ∷ []) ∷ turns 1 (at 4 ∷ at 4 ∷ []) ∷ []) (found 6 1 (on 3 2 ∷ on 4 1 ∷ [])) 192
    -- R 1 twice: from colour 0 to 2 in two steps; the R of the link left, 0 at hop 0, would block
    ∷ case (keeps (at 3 ∷ none ∷ none ∷ []) ∷ turns 1 (none ∷ at 4 ∷ none ∷ []) ∷ turns 1 (none ∷ none ∷ at 5 ∷ []) ∷ []) (found 12 2 (on 3 0 ∷ on 4 1 ∷ on 5 2 ∷ [])) 288
    -- the smaller last colour wins: 3.1 leads to 4.0 and to 4.1
    ∷ case (keeps (none ∷ at 3 ∷ []) ∷ turns 1 (at 4 ∷ at 4 ∷ []) ∷ []) (found 6 2 (on 3 1 ∷ on 4 0 ∷ [])) 96
    -- last frame before last colour: 2.1 3.1 wins over 3.0 4.0, both with hold 1
    ∷ case (keeps (at 3 ∷ at 2 ∷ []) ∷ keeps (at 4 ∷ at 3 ∷ []) ∷ []) (found 6 2 (on 2 1 ∷ on 3 1 ∷ [])) 32
    -- last colour before hold: 1.0 2.1 4.0 (holds 1, 2) wins over 1.0 3.2 4.1 (holds 2, 1)
    ∷ case (keeps (at 1 ∷ []) ∷ turns 2 (none ∷ at 2 ∷ at 3 ∷ []) ∷ turns 1 (at 4 ∷ at 4 ∷ []) ∷ []) (found 18 5 (on 1 0 ∷ on 2 1 ∷ on 4 0 ∷ [])) 224
    -- hold before preceding colour: 1.0 3.1 4.0 (holds 2, 1) wins over 1.0 2.0 4.0 (holds 1, 2)
    ∷ case (keeps (at 1 ∷ []) ∷ turns 1 (at 2 ∷ at 3 ∷ []) ∷ turns 1 (at 4 ∷ none ∷ []) ∷ []) (found 18 4 (on 1 0 ∷ on 3 1 ∷ on 4 0 ∷ [])) 144
    -- preceding frame before preceding colour: 4.1 wins over 5.0; both have r = 2 on the link with
    -- K 4, so hold 1 into 3.0, 12 ticks
    ∷ case (keeps (at 5 ∷ at 4 ∷ []) ∷ link 4 1 (at 3 ∷ none ∷ []) ∷ []) (found 12 2 (on 4 1 ∷ on 3 0 ∷ [])) 96
    -- preceding colour before the next hold back: 0.0 1.0 3.0 4.0 (holds 1, 2, 1) wins over
    -- 0.0 2.1 3.1 4.0 (holds 2, 1, 1)
    ∷ case (keeps (at 0 ∷ []) ∷ turns 1 (at 1 ∷ at 2 ∷ []) ∷ keeps (at 3 ∷ at 3 ∷ []) ∷ turns 1 (at 4 ∷ none ∷ []) ∷ [])
    (found 24 6 (on 0 0 ∷ on 1 0 ∷ on 3 0 ∷ on 4 0 ∷ [])) 176
    -- the count is over pairs of frame and colour: 2 × 2, where frames alone would give 1
    ∷ case (keeps (at 3 ∷ at 3 ∷ []) ∷ turns 1 (at 4 ∷ at 4 ∷ []) ∷ []) (found 6 4 (on 3 0 ∷ on 4 0 ∷ [])) 96
    -- no schedule ends in 4.1: the count is 1 + 2, where frames that end one would give 1 + 4
    ∷ case (keeps (at 3 ∷ none ∷ []) ∷ keeps (at 4 ∷ at 4 ∷ []) ∷ turns 1 (at 5 ∷ at 5 ∷ []) ∷ []) (found 12 3 (on 3 0 ∷ on 4 0 ∷ on 5 0 ∷ [])) 128
    -- R 0, all free: the count reaches the bound, 8 × 2 × 2 × 1
    ∷ case (keeps (all ∷ all ∷ []) ∷ keeps (all ∷ all ∷ []) ∷ []) (found 6 32 (on 7 0 ∷ on 0 0 ∷ [])) 32
    -- R above 0 never reaches it, since no colour is below 0: here colour 0 leads to two colours,
    -- colour 1 to three, 8 × 2 × (2 + 3)
    ∷ case (keeps (all ∷ all ∷ []) ∷ turns 1 (all ∷ all ∷ all ∷ []) ∷ []) (found 6 80 (on 7 0 ∷ on 0 0 ∷ [])) 96
    ∷ []

-- EACH ANSWER OF THE TABLE IS THE RULE'S, and so is each bound
abbrev pub ColouredRight : Type 0
ColouredRight = (c : Coloured) → Memᴰ c coloured → (route_answer 48 c.route ≡ c.expected) × (transition_bound c.route ≡ c.bound)

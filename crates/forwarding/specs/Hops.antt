-- Preconditions of the search on a route's hops, from the checks of document 01. Assumes nothing.
use Rattle.std.specs.Prelude.{◌≡◌, List, [], ◌∷◌, ℕ, ◌+◌, ◌%◌, ◌<◌, ◌≤◌, get_or}
use Rattle.forwarding.specs.declared.Hop.{Hop}

-- the default of a read past an array's end; and the hop in an array's unused places
abbrev pub no_hop : Hop
no_hop = record { frames = 0; range = 0; least = 0; colours = 0; turn = 0; free = [] }

abbrev pub blank_hop : Hop
blank_hop = record { frames = 0; range = 0; least = 0; colours = 0; turn = 0; free = 0 ∷ 0 ∷ 0 ∷ 0 ∷ [] }

-- a hop that the search can enter, for a cycle of T ticks
pub record HopReady (T : ℕ) (h : Hop) : Type 0 where
  -- check 7: K is neither 0 nor above 64, and divides T
  pub some_frame : 0 < h.frames
  pub few_frames : h.frames ≤ 64
  pub divides : T % h.frames ≡ 0
  -- from check 8: Z is not above K
  pub in_cycle : h.range ≤ h.frames
  -- check 21: Y is not above Z, and is not 0 where Z is K: no two numbers from Y up to Z lead to
  -- the same frame
  pub ordered : h.least ≤ h.range
  pub narrow : h.range < h.least + h.frames
  -- check 23: C is 1 to 4; check 24: R is below C
  pub some_colour : 0 < h.colours
  pub few_colours : h.colours ≤ 4
  pub turns : h.turn < h.colours

-- each hop of a list is ready
abbrev pub AllReady : ℕ → List Hop → Type 0
AllReady T [] = Unit {0}
AllReady T (h ∷ hs) = HopReady T h × AllReady T hs

-- the first n places of `hops` are a route whose search may begin
pub record Ready (T : ℕ) (hops : List Hop) (n : ℕ) : Type 0 where
  -- from check 3: T is not above 960
  pub cycle : T ≤ 960
  -- check 12: a route has 1 to 8 links
  pub some_hop : 0 < n
  pub few_hops : n ≤ 8
  pub each : (j : ℕ) → j < n → HopReady T (get_or hops j no_hop)

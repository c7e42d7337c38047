-- Sessions and the frames that they hold (document 01, "Calls on sessions"), and the hops of a route over the frames left free. Assumes nothing.
use Rattle.std.specs.Prelude.{◌≡◌, Bool, not, ◌&&◌, List, [], ◌∷◌, ◌++◌, map, ℕ, ◌-◌, get_or, replicate, eqb, ltb}
use Rattle.lists.specs.Count.{count_below}
use Rattle.trellis.specs.Paths.{gather}
use Rattle.words.specs.Word.{bit_of, word_of, free_frames}
use Rattle.words.specs.Bank.{most_colours}
use Rattle.network.specs.Network.{Topology, no_link}
use Rattle.network.specs.declared.Link.{Link}
use Rattle.forwarding.specs.declared.Hop.{Hop}
use Rattle.forwarding.specs.Forwarding.{Spot, is_free}
use Rattle.ledger.specs.Lists.{any_of}
use Rattle.ledger.specs.Held.{Holding, held_over}

-- a live session, and an entry of the ledger: "its number, its route and its answer's frames and delay", with their cycles
pub record Session : Type 0 where
  pub number : ℕ
  pub route : List ℕ
  pub held : Holding

-- what a stored state shows: its network, and its live sessions in the order of set-up
pub record View : Type 0 where
  pub network : Topology
  pub live : List Session

-- a frame that can be held: "A frame is meant together with its link", and "Frames are held per colour" (W-211)
pub record Slot : Type 0 where
  pub link : ℕ
  pub frame : ℕ
  pub colour : ℕ

abbrev pub slot : ℕ → ℕ → ℕ → Slot
slot l i c = record { link = l; frame = i; colour = c }

abbrev pub same_slot : Slot → Slot → Bool
same_slot x y = eqb y.link x.link && (eqb y.frame x.frame && eqb y.colour x.colour)

-- a frame of each link of a route, in its colour
abbrev pub slots_at : List ℕ → List ℕ → List ℕ → List Slot
slots_at [] fs cs = []
slots_at (l ∷ ls) [] cs = []
slots_at (l ∷ ls) (i ∷ is) [] = []
slots_at (l ∷ ls) (i ∷ is) (c ∷ cs) = slot l i c ∷ slots_at ls is cs

-- the frames that a session holds
abbrev pub slots_of : Session → List Slot
slots_of s = slots_at s.route s.held.frames s.held.colours

abbrev pub holds : Slot → Session → Bool
holds x s = any_of (same_slot x) (slots_of s)

-- some session of the list holds it: "held by a live session"
abbrev pub held_in : List Session → Slot → Bool
held_in ss x = any_of (holds x) ss

-- a session of the list has the number: "the number is live"
abbrev pub is_live : ℕ → List Session → Bool
is_live n ss = any_of (λ s. eqb s.number n) ss

-- link l of a network
abbrev pub link_at : Topology → ℕ → Link
link_at net l = get_or net.links l no_link

-- a link's colours: "Each link carries C channels, 1 to 4, numbered from 0, absent value 1"
-- (W-211); every link has the absent value
unfoldable pub link_colours : Link → ℕ
link_colours k = 1

-- its "conversion range R, absent value 0" (W-211); every link has the absent value
unfoldable pub link_turn : Link → ℕ
link_turn k = 0

-- the free frames of link l in colour c: "A frame is free when it is neither closed nor held by a
-- live session. Written as a word, bit i stands for a free frame i"
unfoldable pub free_of : Topology → List Session → ℕ → ℕ → ℕ
free_of net ss l c = word_of (link_at net l).frames (λ i. not (bit_of (link_at net l).closed i) && not (held_in ss (slot l i c)))

-- a number for each of C colours, and 0 in each place left of four
unfoldable pub by_colour : ℕ → (ℕ → ℕ) → List ℕ
by_colour C f = gather C (λ c. f c ∷ []) ++ replicate (most_colours - C) 0

-- the free frames of link l, a word for each of its colours
abbrev pub free_words : Topology → List Session → ℕ → List ℕ
free_words net ss l = by_colour (link_colours (link_at net l)) (free_of net ss l)

-- link l as a hop: K, Z, Y (W-206), C and R (W-211), and its free frames
abbrev pub hop_of : Topology → List Session → ℕ → Hop
hop_of net ss l =
    record {
      frames = (link_at net l).frames;
      range = (link_at net l).range;
      least = (link_at net l).least;
      colours = link_colours (link_at net l);
      turn = link_turn (link_at net l);
      free = free_words net ss l;
    }

-- A FRAME OF A HOP IS FREE IN A COLOUR exactly when colour and frame are its link's and the frame
-- is "neither closed nor held by a live session" in the colour
abbrev pub FreeIs : Type 0
FreeIs = (net : Topology) (ss : List Session) (l : ℕ) (x : Spot)
    → is_free (hop_of net ss l) x
    ≡ (ltb x.colour (link_colours (link_at net l))
    && (ltb x.frame (link_at net l).frames
    && (not (bit_of (link_at net l).closed x.frame) && not (held_in ss (slot l x.frame x.colour)))))

-- THE COUNT OF A LINK'S FREE FRAMES IN A COLOUR IS THAT OF ITS FRAMES NEITHER CLOSED NOR HELD,
-- counted one by one
abbrev pub FreeCounted : Type 0
FreeCounted = (net : Topology) (ss : List Session) (l c : ℕ)
    → free_frames (link_at net l).frames (free_of net ss l c)
    ≡ count_below (link_at net l).frames (λ i. not (bit_of (link_at net l).closed i) && not (held_in ss (slot l i c)))

-- the hops of a route
abbrev pub hops_of : Topology → List Session → List ℕ → List Hop
hops_of net ss route = map (hop_of net ss) route

-- WHAT A SCHEDULE HOLDS DOES NOT GO BY WHICH FRAMES ARE FREE
abbrev pub HeldFree : Type 0
HeldFree = (net : Topology) (ss : List Session) (route : List ℕ) (delay : ℕ) (xs : List Spot)
    → held_over (hops_of net ss route) delay xs ≡ held_over (hops_of net [] route) delay xs

-- Words of the contracts of inner functions. They are no part of what is promised: `search::search` promises in the words of `Reading` alone. They say what the
-- rows of the code are in the terms of survivor search, whose definitions stand in `trellis/proofs` since it is a method and no rule. Assumes nothing.
use Rattle.std.specs.Prelude.{◌≡◌, Bool, true, false, ◌&&◌, ◌||◌, cond, List, [], ◌∷◌, ℕ, zero, suc, ◌+◌, ◌-◌, ◌*◌, ◌/◌, ◌%◌, ◌<◌, ◌≤◌, eqb, ltb, get_or, set, length, min, Option, Some, None}
use Rattle.lists.specs.Count.{one_if, sum_below, count_below}
use Rattle.trellis.specs.Trellis.{Reach, never, after, Stage, Trellis, entry, width}
use Rattle.trellis.specs.Paths.{reached}
use Rattle.trellis.proofs.Survivor.{tab, Offer, offer_of, Best, nobody, best, best_of, last_offer, into, row, scanned}
use Rattle.trellis.proofs.Ladder.{ladder}
use Rattle.words.specs.Word.{bit_of}
use Rattle.forwarding.specs.declared.Hop.{Hop}
use Rattle.search.specs.declared.Choice.{Choice}
use Rattle.forwarding.specs.Forwarding.{least_hold, gap, may_hold, hold_into, delay}
use Rattle.forwarding.specs.Hops.{HopReady, Ready}
use Rattle.forwarding.specs.Route.{nodes, stage}
use Rattle.forwarding.specs.Inner.{hop_at, stage_after}
use Rattle.forwarding.proofs.Windows.{first_frame}

-- ---- cells

-- a cell: the least delay to a frame; from 32,768 on, that no schedule leads to it
abbrev pub reach_if : Bool → ℕ → Reach
reach_if true d = after d
reach_if false d = never

unfoldable pub cell_reach : ℕ → Reach
cell_reach c = reach_if (ltb c 32768) c

-- the way into a frame: its cell, the hold into the frame and the frame before
abbrev pub way_if : Bool → ℕ → ℕ → ℕ → Best
way_if true d h k = best d h k
way_if false d h k = nobody

unfoldable pub way_of : ℕ → ℕ → ℕ → Best
way_of c h k = way_if (ltb c 32768) c h k

-- the cell of a frame, where it is free
abbrev pub cell_if : ℕ → ℕ → ℕ → ℕ
cell_if free i c = cond (bit_of free i) c 32768

-- a cell after at most d ticks, or none
pub record Within (d c : ℕ) : Type 0 where
  pub most : c ≤ 32768
  pub ticks : c < 32768 → c ≤ d

-- ---- positions: what is least among those that end with a given one

-- p is the latest position with the least key among the n positions that end with e
pub record Latest (key : ℕ → ℕ) (e n p : ℕ) : Type 0 where
  pub begins : e < p + n
  pub ends : p ≤ e
  pub least : (q : ℕ) → e < q + n → q ≤ e → key p ≤ key q
  pub latest : (q : ℕ) → p < q → q ≤ e → key p < key q

-- positions go over two cycles of K frames, the one before and this one: position p is the frame p % K. A position has the key of its frame, in the cycle before with a cycle more
unfoldable pub key_at : ℕ → ℕ → List ℕ → ℕ → ℕ
key_at cycle K keys p = get_or keys (p % K) 0 + cond (ltb p K) cycle 0

-- a stored frame that stands for that latest position
pub record Picked (key : ℕ → ℕ) (K e n frame : ℕ) : Type 0 where
  pub position : ℕ
  pub stands : frame ≡ position % K
  pub latest : Latest key e n position

-- the keys of a link's frames: checks 3 and 7
pub record Keys (cycle K : ℕ) (keys : List ℕ) : Type 0 where
  pub some_frame : 0 < K
  pub few_frames : K ≤ 64
  pub short : cycle ≤ 960
  pub small : (a : ℕ) → get_or keys a 0 ≤ 33728

-- the picks of the windows of 1 to n frames that end with frame e, the window of o + 1 at o
pub record Trail (cycle K : ℕ) (keys : List ℕ) (e n : ℕ) (behind : List ℕ) : Type 0 where
  pub long : length behind ≡ 64
  pub each : (o : ℕ) → o < n → Picked (key_at cycle K keys) K (e + K) (o + 1) (get_or behind o 0)

-- the picks of the windows of w frames that end with the first n frames, where the frames before are to stand
pub record Windows (cycle K : ℕ) (keys : List ℕ) (w n : ℕ) (preds : List ℕ) : Type 0 where
  pub long : length preds ≡ 64
  pub each : (i : ℕ) → i < n → Picked (key_at cycle K keys) K (i + K) w (get_or preds i 0)

-- ---- a hop entered in one colour, from a row of frames

-- the hop h after the hop g in one colour, whose free word this is: a node for each frame
abbrev pub lane_of : (ℕ → ℕ) → Hop → Hop → ℕ → Stage
lane_of cost g h free = record {
  size = h.frames;
  allowed = λ k i. may_hold h (hold_into g h k i) && bit_of free i;
  cost = λ k i. cost (hold_into g h k i);
  rank = λ k i. hold_into g h k i;
}

-- a frame leads to the free ones of `width` frames
pub record Opens (h : Hop) (width free : ℕ) : Type 0 where
  pub some : 0 < width
  pub within : width ≤ h.frames
  pub same : (g : Hop) (k i : ℕ) → (may_hold h (hold_into g h k i) && bit_of free i) ≡ (ltb (gap h.frames (first_frame g h k) i) width && bit_of free i)

-- the key of frame k of the hop before at the frame a that the least hold leads it to: its cell, and the time from a to the end of the cycle
abbrev pub key_from : ℕ → ℕ → List ℕ → ℕ → ℕ → ℕ
key_from time K cells a k = get_or cells k 0 + (K - a) * time

-- a frame's key and the frame before that it is of, where the frame a was offered the key of frame k
pub record Entered (a key k : ℕ) (keys froms keys' froms' : List ℕ) : Type 0 where
  pub keyed : keys' ≡ set keys a (cond (ltb key (get_or keys a 0)) key (get_or keys a 0))
  pub from : froms' ≡ set froms a (cond (ltb key (get_or keys a 0)) k (get_or froms a 0))

-- each frame has the least key of the first n frames of the hop before that lead to it, and where some schedule leads to one of these the smallest frame that has it. Where none does,
-- the key is at least 32,768 and the time to the end of the cycle, so that it is still that of no schedule when that time is taken off
pub record Gathers (first : ℕ → ℕ) (time K : ℕ) (cells : List ℕ) (n : ℕ) (keys froms : List ℕ) : Type 0 where
  pub keys_long : length keys ≡ 64
  pub froms_long : length froms ≡ 64
  pub small : (a : ℕ) → get_or keys a 0 ≤ 33728
  pub few : (a : ℕ) → get_or froms a 0 < 64
  pub waits : (a : ℕ) → a < K → 32768 ≤ get_or keys a 0 → 32768 + (K - a) * time ≤ get_or keys a 0
  pub least : (k : ℕ) → k < n → get_or keys (first k) 0 ≤ key_from time K cells (first k) k
  pub smallest : (k : ℕ) → k < n → get_or keys (first k) 0 < 32768 → k < get_or froms (first k) 0 → get_or keys (first k) 0 < key_from time K cells (first k) k
  pub own : (a : ℕ) → a < K → get_or keys a 0 < 32768 → (get_or froms a 0 < n) × (first (get_or froms a 0) ≡ a) × (get_or keys a 0 ≡ key_from time K cells a (get_or froms a 0))

-- the transitions from the first n frames of the hop before, by the ones of the window that each leads to, where some schedule leads to each in `many` colours
abbrev pub leadings : (ℕ → ℕ) → List ℕ → List ℕ → ℕ → ℕ
leadings first many ones n = sum_below n (λ k. get_or many k 0 * get_or ones (first k) 0)

-- what is known where the frames of the hop g are gathered by the frames of the hop h after it
pub record Gathering (g h : Hop) (time : ℕ) (cells many ones keys froms : List ℕ) : Type 0 where
  -- check 7 of both links, and of the one entered checks 8 and 21: the least hold is within the cycle
  pub few_before : g.frames ≤ 64
  pub some_frame : 0 < h.frames
  pub few_frames : h.frames ≤ 64
  pub led : least_hold h ≤ h.frames
  -- checks 3 and 7: K frames last T ticks, at most 960
  pub in_time : h.frames * time ≤ 960
  -- check 12: at most six transitions lie behind, of a cycle each at most
  pub small : (m : ℕ) → m < g.frames → Within 5760 (get_or cells m 0)
  -- check 23: there are at most four colours
  pub few_many : (k : ℕ) → k < g.frames → get_or many k 0 ≤ 4
  pub few_ones : (a : ℕ) → a < h.frames → get_or ones a 0 ≤ 64
  pub begun : Gathers (first_frame g h) time h.frames cells 0 keys froms

-- the place of frame k of the hop before, in the lane that is chosen for it
abbrev pub place_from : List ℕ → ℕ → ℕ
place_from lanes k = get_or lanes k 0 + k

-- each lane begins at 0, 64, 128 or 192
pub record Lanes (lanes : List ℕ) : Type 0 where
  pub long : length lanes ≡ 64
  pub each : (k : ℕ) → (d : ℕ) × (d < 4) × (get_or lanes k 0 ≡ 64 * d)

-- the first n frames of a hop have their cells and the places before, the others still their picks. A cell is the key that is picked, less the time from the frame to the end of
-- the cycle, plus that of the least hold
pub record Settled (time lead K free w : ℕ) (keys froms lanes : List ℕ) (n : ℕ) (next preds : List ℕ) : Type 0 where
  pub long : length preds ≡ 64
  pub next_long : length next ≡ 64
  pub settled : (i : ℕ) → i < n → (p : ℕ) × Latest (key_at (K * time) K keys) (i + K) w p
      × (get_or next i 0 ≡ cell_if free i (min (key_at (K * time) K keys p + lead - (K - i) * time) 32768)) × (get_or preds i 0 ≡ place_from lanes (get_or froms (p % K) 0))
  pub picked : (i : ℕ) → n ≤ i → i < K → Picked (key_at (K * time) K keys) K (i + K) w (get_or preds i 0)

-- what is known where the frames of a hop are settled
pub record Settling (time lead K free w : ℕ) (keys froms lanes next preds : List ℕ) : Type 0 where
  -- checks 3 and 7
  pub ring : Keys (K * time) K keys
  pub waits : (a : ℕ) → a < K → (K - a) * time ≤ get_or keys a 0
  -- checks 3, 7, 8 and 21: neither the least hold nor the number of holds passes a cycle
  pub led : lead ≤ 960
  pub narrow : w ≤ K
  -- check 7: a frame of the hop before is below 64
  pub few : (a : ℕ) → get_or froms a 0 < 64
  pub lanes_are : Lanes lanes
  pub begun : Settled time lead K free w keys froms lanes 0 next preds

-- what the frames of the hop before, with this row, offer to frame i
abbrev pub offers : Stage → List ℕ → ℕ → ℕ → Offer
offers st cells i k = offer_of st i (cell_reach (get_or cells k 0)) k

-- the transitions from the first n frames of the hop before
abbrev pub counts : Stage → List ℕ → ℕ → ℕ
counts st cells n = sum_below n (λ k. count_below st.size (λ i. reached (cell_reach (get_or cells k 0)) && st.allowed k i))

-- what is known where a colour of the hop h is entered from a row of frames of the hop g, for a cycle of t ticks
pub record Lane (t : ℕ) (g h : Hop) (cells many lanes preds : List ℕ) : Type 0 where
  -- check 3: T is at most 960
  pub cycle : t ≤ 960
  -- check 7 of the link before, and checks 7, 8 and 21 of the link entered
  pub few_before : g.frames ≤ 64
  pub ready : HopReady t h
  -- check 12: at most six transitions lie behind, of a cycle each at most
  pub small : (m : ℕ) → m < g.frames → Within 5760 (get_or cells m 0)
  -- check 23: there are at most four colours
  pub few_many : (k : ℕ) → k < g.frames → get_or many k 0 ≤ 4
  pub lanes_are : Lanes lanes
  pub cells_long : length cells ≡ 64
  pub long : length preds ≡ 64

-- what is stored of frame i of that colour: the best way into it, from frame k of the hop before, and the place of k
pub record LaneWay (st : Stage) (cells lanes : List ℕ) (K' i : ℕ) (next preds : List ℕ) : Type 0 where
  pub hold : ℕ
  pub from : ℕ
  pub few : from < 64
  pub way : way_of (get_or next i 0) hold from ≡ best_of (offers st cells i) K'
  pub stored : get_or preds i 0 ≡ place_from lanes from

-- the cells of the frames of that colour, the places before and the number of transitions
pub record LaneSet (t : ℕ) (g h : Hop) (free : ℕ) (cells many lanes next preds : List ℕ) (count : ℕ) : Type 0 where
  pub inside : (i : ℕ) → i < h.frames → LaneWay (lane_of (delay t h.frames) g h free) cells lanes g.frames i next preds
  pub most : (i : ℕ) → i < h.frames → get_or next i 0 ≤ 32768
  pub counted : count ≡ sum_below g.frames (λ k. get_or many k 0 * count_below h.frames (λ i. may_hold h (hold_into g h k i) && bit_of free i))
  pub next_long : length next ≡ 64
  pub long : length preds ≡ 64

-- ---- places: frame i in colour c is at place 64 × c + i

-- the place of node n of a hop with C colours, and the node at a place
abbrev pub place_of : ℕ → ℕ → ℕ
place_of C n = 64 * (n % C) + n / C

abbrev pub node_in : ℕ → ℕ → ℕ
node_in C p = p % 64 * C + p / 64

-- the cells of a row by node: of n nodes in C colours, and of a hop
unfoldable pub node_cells : ℕ → ℕ → List ℕ → List ℕ
node_cells C n row = tab n (λ m. get_or row (place_of C m) 0)

abbrev pub by_node : Hop → List ℕ → List ℕ
by_node h row = node_cells h.colours (nodes h) row

-- ---- of each frame of the hop before the best of the colours from which a colour may be reached

-- the smallest such colour, one above the largest of the hop g, and how many there are
abbrev pub low_turn : Hop → ℕ → ℕ
low_turn h c = c - h.turn

abbrev pub high_turn : Hop → Hop → ℕ → ℕ
high_turn g h c = min g.colours (c + h.turn + 1)

abbrev pub near_span : Hop → Hop → ℕ → ℕ
near_span g h c = high_turn g h c - low_turn h c

-- the least of n cells from the node `first` on, the smallest node that has it where some schedule leads there, and in how many of them schedules end
pub record Nearest (row : List ℕ) (first n key node many : ℕ) : Type 0 where
  pub most : key ≤ 32768
  pub least : (e : ℕ) → e < n → key ≤ get_or row (first + e) 0
  pub smallest : key < 32768 → (e : ℕ) → e < n → first + e < node → key < get_or row (first + e) 0
  pub own : key < 32768 → (e : ℕ) × (e < n) × (node ≡ first + e) × (key ≡ get_or row (first + e) 0)
  pub counted : many ≡ count_below n (λ e. reached (cell_reach (get_or row (first + e) 0)))

-- the node of frame k of a hop with C colours, in the lane that is chosen for it
abbrev pub node_from : ℕ → List ℕ → ℕ → ℕ
node_from C lanes k = k * C + get_or lanes k 0 / 64

-- those of K frames of a hop with C colours, of the `span` colours from `low` on
pub record NearRow (C low span : ℕ) (row : List ℕ) (K : ℕ) (cells lanes many : List ℕ) : Type 0 where
  pub cells_long : length cells ≡ 64
  pub many_long : length many ≡ 64
  pub lanes_are : Lanes lanes
  pub each : (k : ℕ) → k < K → Nearest (node_cells C (K * C) row) (k * C + low) span (get_or cells k 0) (node_from C lanes k) (get_or many k 0)

-- a cell, its lane and how many cells are reached, where a frame is offered another cell
pub record Offered (cell lane key from many key' from' many' : ℕ) : Type 0 where
  pub keyed : key' ≡ cond (ltb cell key) cell key
  pub laned : from' ≡ cond (ltb cell key) lane from
  pub more : many' ≡ many + one_if (reached (cell_reach cell))

-- the first n frames were offered their cells in one lane of a row, the others have what they had
pub record NearLane (lane : ℕ) (row : List ℕ) (n : ℕ) (cells lanes many cells' lanes' many' : List ℕ) : Type 0 where
  pub cells_long : length cells' ≡ 64
  pub lanes_long : length lanes' ≡ 64
  pub many_long : length many' ≡ 64
  pub each : (k : ℕ) → k < n → Offered (get_or row (lane + k) 0) lane (get_or cells k 0) (get_or lanes k 0) (get_or many k 0) (get_or cells' k 0) (get_or lanes' k 0) (get_or many' k 0)
  pub rest : (k : ℕ) → n ≤ k → (get_or cells' k 0 ≡ get_or cells k 0) × (get_or lanes' k 0 ≡ get_or lanes k 0) × (get_or many' k 0 ≡ get_or many k 0)

-- ---- a lane put into a row and into the predecessors, as colour c

-- its frames are there, and every other colour is as it was
pub record LanePut (c : ℕ) (cells froms next₀ preds₀ next preds : List ℕ) : Type 0 where
  pub next_long : length next ≡ 256
  pub long : length preds ≡ 256
  pub here : (i : ℕ) → i < 64 → (get_or next (64 * c + i) 0 ≡ get_or cells i 0) × (get_or preds (64 * c + i) 0 ≡ get_or froms i 0)
  pub others : (m : ℕ) → (m / 64 ≡ c → ⊥) → (get_or next m 0 ≡ get_or next₀ m 0) × (get_or preds m 0 ≡ get_or preds₀ m 0)

-- ---- a hop entered

-- what is known where the hop h is entered from the hop g with the row `row`, for a cycle of t ticks
pub record Entering (t : ℕ) (g h : Hop) (row preds : List ℕ) : Type 0 where
  -- check 3: T is at most 960
  pub cycle : t ≤ 960
  -- checks 7 and 23 of the link before, and checks 7, 8, 21, 23 and 24 of the link entered
  pub some_before : 0 < g.colours
  pub few_before : g.frames ≤ 64
  pub few_colours : g.colours ≤ 4
  pub ready : HopReady t h
  -- check 12: at most six transitions lie behind, of a cycle each at most
  pub small : (m : ℕ) → m < nodes g → Within 5760 (get_or (by_node g row) m 0)
  pub long : length preds ≡ 256

-- what is stored of node i of a hop with C colours, after one of K' nodes in C' colours: the best way into it, with some hold
pub record Landed (st : Stage) (cells : List ℕ) (K' C' C i : ℕ) (next preds : List ℕ) : Type 0 where
  pub hold : ℕ
  pub way : way_of (get_or next (place_of C i) 0) hold (node_in C' (get_or preds (place_of C i) 0)) ≡ best_of (offers st cells i) K'
  pub near : get_or next (place_of C i) 0 < 32768 → get_or preds (place_of C i) 0 / 64 < C'
  pub most : get_or next (place_of C i) 0 ≤ 32768

-- the transitions into colour c
abbrev pub counts_into : Stage → List ℕ → ℕ → ℕ → ℕ → ℕ → ℕ
counts_into st cells K' K C c = sum_below K' (λ m. count_below K (λ i. reached (cell_reach (get_or cells m 0)) && st.allowed m (i * C + c)))

-- the colours below c of a hop are entered, from a row whose cells by node are `cells`
pub record Coloured (t : ℕ) (g h : Hop) (c : ℕ) (cells next preds : List ℕ) (count : ℕ) : Type 0 where
  pub inside : (i : ℕ) → i < nodes h → i % h.colours < c → Landed (stage t g h) cells (nodes g) g.colours h.colours i next preds
  pub counted : count ≡ sum_below c (λ d. counts_into (stage t g h) cells (nodes g) h.frames h.colours d)
  pub next_long : length next ≡ 256
  pub long : length preds ≡ 256

-- what is known where its colour c is entered
pub record Colouring (t : ℕ) (g h : Hop) (c : ℕ) (row next preds : List ℕ) (count : ℕ) : Type 0 where
  pub entering : Entering t g h row preds
  pub colour : c < h.colours
  pub begun : Coloured t g h c (by_node g row) next preds count

-- the first n cells of one row are those of another
pub record Kept (next : List ℕ) (n : ℕ) (row : List ℕ) : Type 0 where
  pub long : length row ≡ 256
  pub same : (i : ℕ) → i < n → get_or row i 0 ≡ get_or next i 0

-- the cells by node and the predecessors of a hop with C colours, after one of K' nodes in C' colours with the cells `cells`
pub record Advanced (st : Stage) (cells : List ℕ) (K' C' C : ℕ) (next preds : List ℕ) (count : ℕ) : Type 0 where
  pub inside : (i : ℕ) → i < st.size → (h : ℕ) × (way_of (get_or next i 0) h (node_in C' (get_or preds (place_of C i) 0)) ≡ best_of (offers st cells i) K')
  pub near : (i : ℕ) → i < st.size → get_or next i 0 < 32768 → get_or preds (place_of C i) 0 / 64 < C'
  pub most : (i : ℕ) → i < st.size → get_or next i 0 ≤ 32768
  pub counted : count ≡ counts st cells K'
  pub long : length preds ≡ 256

-- ---- a route swept

-- the first n cells of the lane of colour c of hop 0, by its free word: a free frame has delay 0; every other colour is as it was
pub record FirstLane (free c n : ℕ) (old cells : List ℕ) : Type 0 where
  pub long : length cells ≡ 256
  pub here : (i : ℕ) → i < n → get_or cells (64 * c + i) 0 ≡ cell_if free i 0
  pub others : (m : ℕ) → (m / 64 ≡ c → ⊥) → get_or cells m 0 ≡ get_or old m 0

-- the cells of K frames in the colours below C
pub record FirstRow (free : List ℕ) (K C : ℕ) (cells : List ℕ) : Type 0 where
  pub long : length cells ≡ 256
  pub inside : (c i : ℕ) → c < C → i < K → get_or cells (64 * c + i) 0 ≡ cell_if (get_or free c 0) i 0

-- cells by node that are handed over, as what each node of hop 0 costs to begin at; and the trellis of hops 0 to j that begins so
abbrev pub begins : List ℕ → ℕ → Reach
begins first i = cell_reach (get_or first i 0)

abbrev pub trellis_to : ℕ → List Hop → List ℕ → ℕ → Trellis
trellis_to t hops first = ladder (entry (nodes (hop_at hops 0)) (begins first)) (stage_after t hops)

-- cells that say what the row of a trellis says
abbrev pub Agrees : List ℕ → Trellis → Type 0
Agrees cells tr = (i : ℕ) → i < width tr → cell_reach (get_or cells i 0) ≡ get_or (row tr) i never

-- the place before place p of hop j + 1, whose predecessors stand at j
abbrev pub place_before : List (List ℕ) → ℕ → ℕ → ℕ
place_before preds j p = get_or (get_or preds j []) p 0

-- what is stored before node i of hop j + 1, and the node of hop j that this is
abbrev pub stored_at : List Hop → List (List ℕ) → ℕ → ℕ → ℕ
stored_at hops preds j i = place_before preds j (place_of (hop_at hops (suc j)).colours i)

abbrev pub from_at : List Hop → List (List ℕ) → ℕ → ℕ → ℕ
from_at hops preds j i = node_in (hop_at hops j).colours (stored_at hops preds j i)

-- each later hop has 256 places
pub record Wide (preds : List (List ℕ)) : Type 0 where
  pub long : length preds ≡ 7
  pub each : (j : ℕ) → j < 7 → length (get_or preds j []) ≡ 256

-- what is known where the hops 0 to `last` are swept from a row on
pub record Sweeps (t : ℕ) (hops : List Hop) (last : ℕ) (first : List ℕ) (preds : List (List ℕ)) : Type 0 where
  pub ready : Ready t hops (last + 1)
  -- checks 3 and 12: with a cycle for each later hop no delay passes 7 × 960
  pub small : (i : ℕ) → i < nodes (hop_at hops 0) → Within (6720 - 960 * last) (get_or (by_node (hop_at hops 0) first) i 0)
  pub first_long : length first ≡ 256
  pub wide : Wide preds

-- the stored predecessor of node i of hop j + 1 is the one of the trellis that begins with the cells `first`
pub record FromKnown (t : ℕ) (hops : List Hop) (first : List ℕ) (preds : List (List ℕ)) (j i : ℕ) : Type 0 where
  pub cell : ℕ
  pub hold : ℕ
  pub way : way_of cell hold (from_at hops preds j i) ≡ into (row (trellis_to t hops first j)) (stage_after t hops j) i
  pub near : cell < 32768 → stored_at hops preds j i / 64 < (hop_at hops j).colours

-- what the sweep over hops 0 to j leaves: the row of hop j, the predecessors of each hop, and the count
pub record Swept (t : ℕ) (hops : List Hop) (first : List ℕ) (j : ℕ) (cells : List ℕ) (preds : List (List ℕ)) (count : ℕ) : Type 0 where
  pub cells_long : length cells ≡ 256
  pub wide : Wide preds
  pub most : (i : ℕ) → i < nodes (hop_at hops j) → get_or (by_node (hop_at hops j) cells) i 0 ≤ 32768
  pub rows : Agrees (by_node (hop_at hops j) cells) (trellis_to t hops (by_node (hop_at hops 0) first) j)
  pub froms : (m : ℕ) → m < j → (i : ℕ) → i < nodes (hop_at hops (suc m)) → FromKnown t hops (by_node (hop_at hops 0) first) preds m i
  pub counted : count ≡ scanned (trellis_to t hops (by_node (hop_at hops 0) first) j)

-- ---- the end, and the way back

-- what the nodes of the last hop offer as the end, and the frames of its lane of colour c
abbrev pub end_offers : List ℕ → ℕ → Offer
end_offers cells i = last_offer (cell_reach (get_or cells i 0))

abbrev pub lane_offers : List ℕ → ℕ → ℕ → Offer
lane_offers row c i = last_offer (cell_reach (get_or row (64 * c + i) 0))

-- whether the end with cell b at place q comes before the one with cell a at place p, whose colour is smaller
abbrev pub end_sooner : ℕ → ℕ → ℕ → ℕ → Bool
end_sooner a p b q = ltb b a || (eqb b a && ltb (q % 64) (p % 64))

-- the least cell of K frames in C colours, and where some schedule ends there its place: the smallest frame that has it, then the smallest colour
pub record EndOf (row : List ℕ) (K C key place : ℕ) : Type 0 where
  pub most : key ≤ 32768
  pub least : (c i : ℕ) → c < C → i < K → key ≤ get_or row (64 * c + i) 0
  pub colour : key < 32768 → place / 64 < C
  pub frame : key < 32768 → place % 64 < K
  pub own : key < 32768 → get_or row place 0 ≡ key
  pub first : key < 32768 → (c i : ℕ) → c < C → i < K → get_or row (64 * c + i) 0 ≡ key → (i ≡ place % 64 → place / 64 ≤ c) × (place % 64 ≤ i)

-- the best end, where some schedule ends, or none
unfoldable pub EndFound : List ℕ → ℕ → ℕ → Option Choice → Type 0
EndFound row K C None = EndOf row K C 32768 0
EndFound row K C (Some end) = EndOf row K C end.key end.place × (end.key < 32768)

-- the places back from place p of hop j, the latest first, by the stored predecessors
abbrev pub chain_of : List (List ℕ) → ℕ → ℕ → List ℕ
chain_of preds zero p = p ∷ []
chain_of preds (suc j) p = p ∷ chain_of preds j (place_before preds j p)

-- each of those places is below 256
abbrev pub ChainFits : List (List ℕ) → ℕ → ℕ → Type 0
ChainFits preds zero p = p < 256
ChainFits preds (suc j) p = (p < 256) × ChainFits preds j (place_before preds j p)

-- the frames and the colours at the first n places; unused ones hold 0
pub record Parts (n : ℕ) (places frames colours : List ℕ) : Type 0 where
  pub frames_long : length frames ≡ 8
  pub colours_long : length colours ≡ 8
  pub each : (j : ℕ) → j < n → (get_or frames j 0 ≡ get_or places j 0 % 64) × (get_or colours j 0 ≡ get_or places j 0 / 64)
  pub rest : (j : ℕ) → n ≤ j → (get_or frames j 0 ≡ 0) × (get_or colours j 0 ≡ 0)

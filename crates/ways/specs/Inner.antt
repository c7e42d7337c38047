-- Words of the contracts of inner functions, no part of what is promised: `ways::number_over`
-- promises in the words of `forwarding/specs/Ways`. Assumes nothing.
use Rattle.std.specs.Prelude.{◌≡◌, List, ℕ, ◌*◌, ◌^◌, ◌<◌, ◌≤◌, get_or, length}
use Rattle.lists.specs.Count.{one_if, sum_below}
use Rattle.words.specs.Word.{bit_of}
use Rattle.forwarding.specs.declared.Hop.{Hop}
use Rattle.forwarding.specs.Forwarding.{Spot, is_allowed}
use Rattle.forwarding.specs.Hops.{HopReady}

-- a frame of a link of one colour
abbrev pub plain : ℕ → Spot
plain i = record { frame = i; colour = 0 }

-- the ways on from frame i of a hop with this word of free frames and this row, none where it is
-- not free
abbrev pub free_ways : ℕ → List ℕ → ℕ → ℕ
free_ways free row i = one_if (bit_of free i) * get_or row i 0

-- a row of K frames whose numbers are those of at most seven later hops (check 12)
abbrev pub SmallRow : ℕ → List ℕ → Type 0
SmallRow K row = (i : ℕ) → i < K → get_or row i 0 ≤ 256 ^ 7

-- the sums of f over the places below m, for each m up to n
pub record SumsTo (f : ℕ → ℕ) (n : ℕ) (sums : List ℕ) : Type 0 where
  pub long : length sums ≡ 65
  pub each : (m : ℕ) → m ≤ n → get_or sums m 0 ≡ sum_below m f

-- those of a whole cycle of K places; none is above 64 times 256 to the power 7
abbrev pub CycleSums : (ℕ → ℕ) → ℕ → List ℕ → Type 0
CycleSums f K sums = SumsTo f K sums × (sum_below K f ≤ 64 * 256 ^ 7)

-- what is known where frames of the hop g lead into the hop h, with the row of h
pub record LeadsInto (g h : Hop) (row : List ℕ) : Type 0 where
  -- check 7 of the link before, and checks 7, 8 and 21 of the one entered, for some cycle
  pub few_before : g.frames ≤ 64
  pub ticks : ℕ
  pub ready : HopReady ticks h
  pub small : SmallRow h.frames row

-- the ways on from the first n frames of the hop g, by the row of the hop h after it
pub record RowBefore (g h : Hop) (row : List ℕ) (n : ℕ) (ways : List ℕ) : Type 0 where
  pub long : length ways ≡ 64
  pub each : (k : ℕ) → k < n → get_or ways k 0 ≡ sum_below h.frames (λ i. one_if (is_allowed g h (plain k) (plain i)) * get_or row i 0)

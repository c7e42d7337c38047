-- Where a node's cell is stored, and the node at a place. Assumes nothing.
use mathlib.Core.Path.{◌≡◌, ◌∙◌, ap, ap₂}
use mathlib.Core.List.{List}
use Prim.Native.Nat.{ℕ, ◌+◌, ◌*◌, ◌/◌, ◌%◌, ◌<◌}
use native.Mathlib.Omega.{arith}
use lib.ListN.{get_or}
use Rattle.lists.proofs.Digits.{digit_first, digit_second, digits_below, below_first, below_second}
use Rattle.trellis.proofs.Optimal.{tab_at}
use Rattle.forwarding.specs.declared.Hop.{Hop}
use Rattle.forwarding.specs.Hops.{HopReady}
use Rattle.forwarding.specs.Route.{nodes}
use Rattle.search.specs.Inner.{place_of, node_in, node_cells}

-- the cell of node m of n
pub node_cell : (C n : ℕ) (row : List ℕ) (m : ℕ) → m < n → get_or (node_cells C n row) m 0 ≡ get_or row (place_of C m) 0
unfolding node_cells
node_cell C n row m l = tab_at n (λ x. get_or row (place_of C x) 0) 0 m l

-- frame k in colour d, by its digits
pub place_digits : (C k d : ℕ) → d < C → place_of C (k * C + d) ≡ 64 * d + k
place_digits C k d l = ap₂ (λ (x y : ℕ). 64 * x + y) (digit_second C k d l) (digit_first C k d l)

pub digits_cell : (C K : ℕ) (row : List ℕ) (k d : ℕ) → k < K → d < C → get_or (node_cells C (K * C) row) (k * C + d) 0 ≡ get_or row (64 * d + k) 0
digits_cell C K row k d l m = node_cell C (K * C) row (k * C + d) (digits_below K C k d l m) ∙ ap (λ (x : ℕ). get_or row x 0) (place_digits C k d m)

pub node_digits : (C k d : ℕ) → k < 64 → node_in C (64 * d + k) ≡ k * C + d
node_digits C k d l =
    let frame : (64 * d + k) % 64 ≡ k = omega arith in
    let colour : (64 * d + k) / 64 ≡ d = omega arith in
    ap₂ (λ (x y : ℕ). x * C + y) frame colour

-- a place that is a colour's of the hop
pub place_back : (C p : ℕ) → p / 64 < C → place_of C (node_in C p) ≡ p
place_back C p l = place_digits C (p % 64) (p / 64) l ∙ omega arith

-- places are below the end of the last lane
module _ (T : ℕ) (h : Hop) (r : HopReady T h) (i : ℕ) (l : i < nodes h) where
  pub place_last : (n : ℕ) → n ≡ 64 * h.colours → place_of h.colours i < n
  place_last n e = omega (arith, below_first h.frames h.colours i l, below_second h.frames h.colours i l, r.few_frames)

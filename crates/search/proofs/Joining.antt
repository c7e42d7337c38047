-- All colours of a hop entered, and its row kept: the hop is entered as a stage of the trellis.
-- Assumes nothing.
use mathlib.Core.Path.{◌≡◌, sym, ◌∙◌, ap}
use mathlib.Core.Bool.{◌&&◌}
use mathlib.Core.List.{List}
use Prim.Native.Nat.{ℕ, ◌+◌, ◌*◌, ◌<◌}
use native.Mathlib.Omega.{arith}
use lib.ListN.{get_or}
use Rattle.lists.specs.Count.{one_if, sum_below}
use Rattle.lists.proofs.Count.{sum_cong}
use Rattle.lists.proofs.Sums.{sum_swap, sum_pairs}
use Rattle.lists.proofs.Digits.{below_second}
use Rattle.trellis.specs.Paths.{reached}
use Rattle.forwarding.specs.declared.Hop.{Hop}
use Rattle.forwarding.specs.Hops.{HopReady}
use Rattle.forwarding.specs.Route.{nodes, stage}
use Rattle.search.specs.Inner.{cell_reach, way_of, place_of, node_in, by_node, Coloured, Kept, Advanced}
use Rattle.search.proofs.Placing.{node_cell, place_last}

-- the transitions, colour by colour
by_colour_lem : (g h : Hop) (f : ℕ → ℕ → ℕ)
    → sum_below h.colours (λ d. sum_below (nodes g) (λ m. sum_below h.frames (λ i. f m (i * h.colours + d)))) ≡ sum_below (nodes g) (λ m. sum_below (nodes h) (λ i. f m i))
by_colour_lem g h f =
    sum_swap h.colours (nodes g) (λ d m. sum_below h.frames (λ i. f m (i * h.colours + d)))
    ∙ sum_cong (nodes g) (λ m. sum_below h.colours (λ d. sum_below h.frames (λ i. f m (i * h.colours + d)))) (λ m. sum_below (nodes h) (λ i. f m i))
    (λ m l. sum_swap h.colours h.frames (λ d i. f m (i * h.colours + d)) ∙ sym (sum_pairs h.frames h.colours (λ i. f m i)))

module _ (t : ℕ) (g h : Hop) (cells : List ℕ) (r : HopReady t h) where
  pub all_colours : (next preds row' : List ℕ) (count n : ℕ) → n ≡ 64 * h.colours → Coloured t g h h.colours cells next preds count → Kept next n row'
      → Advanced (stage t g h) cells (nodes g) g.colours h.colours (by_node h row') preds count
  all_colours next preds row' count n e s k = record {
    inside = λ i l. let w = s.inside i l (below_second h.frames h.colours i l) in
        (w.hold, ap (λ (x : ℕ). way_of x w.hold (node_in g.colours (get_or preds (place_of h.colours i) 0))) (same i l) ∙ w.way);
    near = λ i l m. (s.inside i l (below_second h.frames h.colours i l)).near (omega (arith, same i l));
    most = λ i l. omega (arith, same i l, (s.inside i l (below_second h.frames h.colours i l)).most);
    counted = s.counted ∙ by_colour_lem g h (λ m i. one_if (reached (cell_reach (get_or cells m 0)) && (stage t g h).allowed m i));
    long = s.long;
  }
    where
      same : (i : ℕ) → i < nodes h → get_or (by_node h row') i 0 ≡ get_or next (place_of h.colours i) 0
      same i l = node_cell h.colours (nodes h) row' i l ∙ k.same (place_of h.colours i) (place_last t h r i l n e)

-- A hop entered colour by colour: near rows, lanes put into a row, and what is then stored.
-- Assumes nothing.
use mathlib.Core.Path.{◌≡◌, refl, sym, ◌∙◌, ap, ap₂, subst}
use mathlib.Core.Bool.{Bool, true, false, ◌&&◌, cond}
use mathlib.Core.List.{List}
use mathlib.Core.Logic.{⊎_elim}
use Prim.Native.Nat.{ℕ, zero, suc, ◌+◌, ◌*◌, ◌/◌, ◌%◌, ◌<◌, ◌≤◌}
use native.Mathlib.Nat.{le_trans, eq-or-lt_of_le, mul-le-mul, add_assoc}
use native.Mathlib.Numerals.{add-one}
use native.Mathlib.Decide.{dec_lt, ℕ_discrete}
use native.Mathlib.Omega.{arith}
use lib.Dec.{ltb}
use lib.ListN.{get_or, set, length, replicate, length-set, length-replicate, get_or-replicate}
use lib.Seq.{get_or-set_same, get_or-set_other}
use borrow.Author.Count.{below_more}
use Rattle.lists.specs.Count.{sum_below, count_below}
use Rattle.lists.proofs.Count.{sum_bound, count_le}
use Rattle.lists.proofs.Digits.{digits_back, digits_below, below_first}
use Rattle.trellis.specs.Paths.{reached}
use Rattle.forwarding.specs.declared.Hop.{Hop}
use Rattle.forwarding.specs.Route.{nodes, stage}
use Rattle.search.specs.Inner.{cell_reach, way_of, Within, place_from, place_of, node_in, node_cells, by_node, node_from, NearRow, NearLane, Offered, low_turn, near_span, Lane, LaneSet, LanePut, Entering, Landed, counts_into, Coloured, Colouring}
use Rattle.search.proofs.Placing.{digits_cell, node_digits, place_digits}
use Rattle.search.proofs.Colours.{with_node, way_node, colour_best, colour_near, colour_count}
use Rattle.search.proofs.Nearing.{near_none, near_more, near_of, near_fits}

-- ---- a near row, lane by lane
pub zero_all : (n k : ℕ) → ◌≡◌ {A = ℕ} (get_or (replicate n 0) k 0) 0
zero_all zero k = refl
zero_all (suc n) zero = refl
zero_all (suc n) (suc k) = zero_all n k

module _ (C low : ℕ) (row : List ℕ) (K : ℕ) (few : K ≤ 64) where
  pub none_near : NearRow C low 0 row K (replicate 64 32768) (replicate 64 0) (replicate 64 0)
  none_near = record {
    cells_long = length-replicate {A = ℕ} 64 32768;
    many_long = length-replicate {A = ℕ} 64 0;
    lanes_are = record { long = length-replicate {A = ℕ} 64 0; each = λ k. (0, omega arith, zero_all 64 k) };
    each = λ k l. rw (get_or-replicate {A = ℕ} 64 k 32768 0 (omega arith), zero_all 64 k) (near_none (node_cells C (K * C) row) (k * C + low) (k * C + 0 / 64));
  }

  module _ (e lane : ℕ) (is : lane ≡ 64 * (low + e)) (in-colours : low + e < C) (in_four : low + e < 4) (cells lanes many cells' lanes' many' : List ℕ)
      (N : NearRow C low e row K cells lanes many) (L : NearLane lane row K cells lanes many cells' lanes' many') where
    laned : (k : ℕ) → (d : ℕ) × (d < 4) × (get_or lanes' k 0 ≡ 64 * d)
    laned k = elim (dec_lt k K) [
      | yes l ↦ go (ltb (get_or row (lane + k) 0) (get_or cells k 0)) (L.each k l).laned
      | no l ↦ let w = N.lanes_are.each k in (w.0, w.1, (L.rest k (omega arith)).1 ∙ w.2)
    ]
      where
        go : (t : Bool) → get_or lanes' k 0 ≡ cond t lane (get_or lanes k 0) → (d : ℕ) × (d < 4) × (get_or lanes' k 0 ≡ 64 * d)
        go true q = (low + e, in_four, q ∙ is)
        go false q = let w = N.lanes_are.each k in (w.0, w.1, q ∙ w.2)

    noded : (k : ℕ) → k < K → node_from C lanes' k ≡ cond (ltb (get_or row (lane + k) 0) (get_or cells k 0)) (k * C + low + e) (node_from C lanes k)
    noded k l = go (ltb (get_or row (lane + k) 0) (get_or cells k 0)) (L.each k l).laned
      where
        go : (t : Bool) → get_or lanes' k 0 ≡ cond t lane (get_or lanes k 0) → node_from C lanes' k ≡ cond t (k * C + low + e) (node_from C lanes k)
        go true q = let u : get_or lanes' k 0 / 64 ≡ low + e = omega (arith, q, is) in omega (arith, u)
        go false q = ap (λ (x : ℕ). k * C + x / 64) q

    pub lane_near : NearRow C low (e + 1) row K cells' lanes' many'
    lane_near = record {
      cells_long = L.cells_long;
      many_long = L.many_long;
      lanes_are = record { long = L.lanes_long; each = laned };
      each = λ k l.
          let o = L.each k l in
          let at : get_or row (lane + k) 0 ≡ get_or row (64 * (low + e) + k) 0 = ap (λ (x : ℕ). get_or row (x + k) 0) is in
          near_more (node_cells C (K * C) row) (k * C + low) e (get_or cells k 0) (node_from C lanes k) (get_or many k 0) (get_or row (lane + k) 0) (get_or cells' k 0) (node_from C lanes' k) (get_or many' k 0) (N.each k l)
          (at ∙ sym (digits_cell C K row k (low + e) l in-colours) ∙ ap (λ (x : ℕ). get_or (node_cells C (K * C) row) x 0) (sym (add_assoc (k * C) low e)))
          o.keyed (noded k l) o.more;
    }

-- ---- one lane offered, frame by frame
module _ (lane : ℕ) (row cells₀ lanes₀ many₀ : List ℕ) where
  pub none_offered : length cells₀ ≡ 64 → length lanes₀ ≡ 64 → length many₀ ≡ 64 → NearLane lane row 0 cells₀ lanes₀ many₀ cells₀ lanes₀ many₀
  none_offered x y z = record { cells_long = x; lanes_long = y; many_long = z; each = λ k l. absurd (omega arith); rest = λ k l. (refl, refl, refl) }

  pub one_offered : (n : ℕ) (cells lanes many : List ℕ) (cell key from count : ℕ) → n < 64 → NearLane lane row n cells₀ lanes₀ many₀ cells lanes many → cell ≡ get_or row (lane + n) 0
      → Offered cell lane (get_or cells n 0) (get_or lanes n 0) (get_or many n 0) key from count → NearLane lane row (n + 1) cells₀ lanes₀ many₀ (set cells n key) (set lanes n from) (set many n count)
  one_offered n cells lanes many cell key from count l L e o = record {
    cells_long = length-set cells n key ∙ L.cells_long;
    lanes_long = length-set lanes n from ∙ L.lanes_long;
    many_long = length-set many n count ∙ L.many_long;
    each = below_more Is n there here;
    rest = λ k m.
        let r = L.rest k (omega arith) in
        (get_or-set_other cells n k key 0 (λ x. omega arith) ∙ r.0, get_or-set_other lanes n k from 0 (λ x. omega arith) ∙ r.1, get_or-set_other many n k count 0 (λ x. omega arith) ∙ r.2);
  }
    where
      Is : ℕ → Type 0
      Is k = Offered (get_or row (lane + k) 0) lane (get_or cells₀ k 0) (get_or lanes₀ k 0) (get_or many₀ k 0) (get_or (set cells n key) k 0) (get_or (set lanes n from) k 0) (get_or (set many n count) k 0)

      there : (k : ℕ) → k < n → Is k
      there k m = rw (get_or-set_other cells n k key 0 (λ x. omega arith), get_or-set_other lanes n k from 0 (λ x. omega arith), get_or-set_other many n k count 0 (λ x. omega arith)) (L.each k m)

      here : Is n
      here =
          let r = L.rest n (omega arith) in
          rw (get_or-set_same cells n key 0 (omega (arith, L.cells_long)), get_or-set_same lanes n from 0 (omega (arith, L.lanes_long)), get_or-set_same many n count 0 (omega (arith, L.many_long)), ← e, ← r.0, ← r.1, ← r.2) o

-- as many cells are reached as there are lanes at most
pub near_many : (C low e : ℕ) (row : List ℕ) (K : ℕ) (cells lanes many : List ℕ) → NearRow C low e row K cells lanes many → (k : ℕ) → k < K → get_or many k 0 ≤ e
near_many C low e row K cells lanes many N k l =
    omega (arith, (N.each k l).counted, count_le e (λ d. reached (cell_reach (get_or (node_cells C (K * C) row) (k * C + low + d) 0))))

module _ (g h : Hop) (c : ℕ) (row : List ℕ) where
  -- the cells of such a row are within what those of the row are, and there are no more than four colours
  pub near_within : (d k : ℕ) (cells lanes many : List ℕ) → NearRow g.colours (low_turn h c) (near_span g h c) row g.frames cells lanes many
      → ((m : ℕ) → m < nodes g → Within d (get_or (by_node g row) m 0)) → k < g.frames → Within d (get_or cells k 0)
  near_within d k cells lanes many N small l = record {
    most = (N.each k l).most;
    ticks = λ r.
        let o = (N.each k l).own r in
        let u = near_of g h c o.0 o.1 in
        let at : k * g.colours + low_turn h c + o.0 ≡ k * g.colours + (low_turn h c + o.0) = omega arith in
        let same : get_or cells k 0 ≡ get_or (by_node g row) (k * g.colours + (low_turn h c + o.0)) 0 = o.3 ∙ ap (λ (m : ℕ). get_or (by_node g row) m 0) at in
        omega (arith, same, (small (k * g.colours + (low_turn h c + o.0)) (digits_below g.frames g.colours k (low_turn h c + o.0) l u.0)).ticks (omega (arith, same)));
  }

  pub near_four : (k : ℕ) (cells lanes many : List ℕ) → NearRow g.colours (low_turn h c) (near_span g h c) row g.frames cells lanes many → g.colours ≤ 4 → c < 4 → k < g.frames → get_or many k 0 ≤ 4
  near_four k cells lanes many N few m l =
      omega (arith, near_many g.colours (low_turn h c) (near_span g h c) row g.frames cells lanes many N k l, (near_fits g h c (near_span g h c) refl few m).0)

-- ---- A COLOUR OF A HOP
module _ (t : ℕ) (g h : Hop) (c : ℕ) (row next₀ preds₀ : List ℕ) (count₀ : ℕ) (E : Colouring t g h c row next₀ preds₀ count₀) where
  abbrev free : ℕ
  free = get_or h.free c 0

  abbrev entering : Entering t g h row preds₀
  entering = E.entering

  pub colour_four : c < 4
  colour_four = omega (arith, E.colour, entering.ready.few_colours)

  pub turn_four : h.turn < 4
  turn_four = omega (arith, entering.ready.turns, entering.ready.few_colours)

  module _ (cells lanes many : List ℕ) (N : NearRow g.colours (low_turn h c) (near_span g h c) row g.frames cells lanes many) where
    -- the lane may be entered from the row of the frames
    pub begins_lane : (blank : List ℕ) → length blank ≡ 64 → Lane t g h cells many lanes blank
    begins_lane blank l = record {
      cycle = entering.cycle;
      few_before = entering.few_before;
      ready = entering.ready;
      small = λ k m. near_within g h c row 5760 k cells lanes many N entering.small m;
      few_many = λ k m. near_four g h c row k cells lanes many N entering.few_colours colour_four m;
      lanes_are = N.lanes_are;
      cells_long = N.cells_long;
      long = l;
    }

    module _ (lane froms : List ℕ) (more : ℕ) (L : LaneSet t g h free cells many lanes lane froms more) (next preds : List ℕ) (P : LanePut c lane froms next₀ preds₀ next preds) where
      -- a place that is chosen has the frame and the lane
      chosen_node : (k : ℕ) → k < 64 → node_in g.colours (place_from lanes k) ≡ node_from g.colours lanes k
      chosen_node k l =
          let w = N.lanes_are.each k in
          let u : get_or lanes k 0 / 64 ≡ w.0 = omega (arith, w.2) in
          ap (λ (x : ℕ). node_in g.colours (x + k)) w.2 ∙ node_digits g.colours k w.0 l ∙ ap (λ (x : ℕ). k * g.colours + x) (sym u)

      chosen_lane : (k : ℕ) → k < 64 → place_from lanes k / 64 ≡ get_or lanes k 0 / 64
      chosen_lane k l = let w = N.lanes_are.each k in omega (arith, w.2)

      -- frame i of this colour
      here : (i : ℕ) → i < h.frames → Landed (stage t g h) (by_node g row) (nodes g) g.colours h.colours (i * h.colours + c) next preds
      here i l =
          let w = L.inside i l in
          let o = P.here i (omega (arith, l, entering.ready.few_frames)) in
          let at : place_of h.colours (i * h.colours + c) ≡ 64 * c + i = place_digits h.colours i c E.colour in
          let cell : get_or next (place_of h.colours (i * h.colours + c)) 0 ≡ get_or lane i 0 = ap (λ (x : ℕ). get_or next x 0) at ∙ o.0 in
          let stored : get_or preds (place_of h.colours (i * h.colours + c)) 0 ≡ place_from lanes w.from = ap (λ (x : ℕ). get_or preds x 0) at ∙ o.1 ∙ w.stored in
          record {
            hold = w.hold;
            way =
                ap₂ (λ (x p : ℕ). way_of x w.hold (node_in g.colours p)) cell stored
                ∙ ap (way_of (get_or lane i 0) w.hold) (chosen_node w.from w.few)
                ∙ way_node (node_from g.colours lanes) (get_or lane i 0) w.hold w.from ∙ ap (with_node (node_from g.colours lanes)) w.way
                ∙ sym (colour_best t g h c row cells lanes many N free refl E.colour i);
            near = λ r. omega (arith, stored, chosen_lane w.from w.few, colour_near t g h c row cells lanes many N free refl E.colour i (get_or lane i 0) w.hold w.from w.way (omega (arith, cell)));
            most = omega (arith, cell, L.most i l);
          }

      -- WHAT IS STORED IS THE BEST WAY INTO EACH NODE of the colour and of those before it
      pub colour_set : (count : ℕ) → count ≡ count₀ + more → Coloured t g h (c + 1) (by_node g row) next preds count
      colour_set count e = record {
        inside = λ i l m. elim (ℕ_discrete (i % h.colours) c) [
          | yes q ↦
              let at : i / h.colours * h.colours + c ≡ i = ap (λ (x : ℕ). i / h.colours * h.colours + x) (sym q) ∙ digits_back h.colours i in
              subst (λ (x : ℕ). Landed (stage t g h) (by_node g row) (nodes g) g.colours h.colours x next preds) at (here (i / h.colours) (below_first h.frames h.colours i l))
          | no q ↦
              let w = E.begun.inside i l (⊎_elim (λ x. absurd (q x)) (λ x. x) (eq-or-lt_of_le (omega arith))) in
              let away : place_of h.colours i / 64 ≡ i % h.colours = omega (arith, below_first h.frames h.colours i l, entering.ready.few_frames) in
              let o = P.others (place_of h.colours i) (λ x. q (sym away ∙ x)) in
              record {
                hold = w.hold;
                way = ap₂ (λ (x p : ℕ). way_of x w.hold (node_in g.colours p)) o.0 o.1 ∙ w.way;
                near = λ r. omega (arith, ap (λ (x : ℕ). x / 64) o.1, w.near (omega (arith, o.0)));
                most = omega (arith, o.0, w.most);
              }
        ];
        counted = e ∙ rw (add-one c) (ap₂ ◌+◌ E.begun.counted (L.counted ∙ sym (colour_count t g h c row cells lanes many N free refl E.colour)));
        next_long = P.next_long;
        long = P.long;
      }

-- ---- A HOP COLOUR BY COLOUR
module _ (t : ℕ) (g h : Hop) (row : List ℕ) where
  pub no_colours : (next preds : List ℕ) → length next ≡ 256 → length preds ≡ 256 → Coloured t g h 0 (by_node g row) next preds 0
  no_colours next preds l m = record { inside = λ i q r. absurd (omega arith); counted = refl; next_long = l; long = m }

  -- the next colour may be entered
  pub still_colouring : (c count : ℕ) (next old preds : List ℕ) → Entering t g h row old → c < h.colours
      → Coloured t g h c (by_node g row) next preds count → Colouring t g h c row next preds count
  still_colouring c count next old preds E l s = record {
    entering = record {
      cycle = E.cycle;
      some_before = E.some_before;
      few_before = E.few_before;
      few_colours = E.few_colours;
      ready = E.ready;
      small = E.small;
      long = s.long;
    };
    colour = l;
    begun = s;
  }

-- a colour has at most 256 × 64 transitions, so the colours below c have at most c times as many
pub colours_few : (t : ℕ) (g h : Hop) (cells : List ℕ) (c : ℕ) → g.frames ≤ 64 → g.colours ≤ 4 → h.frames ≤ 64
    → sum_below c (λ d. counts_into (stage t g h) cells (nodes g) h.frames h.colours d) ≤ c * 16384
colours_few t g h cells c few four small =
    sum_bound c 16384 (λ d. counts_into (stage t g h) cells (nodes g) h.frames h.colours d) (λ d l.
    le_trans (sum_bound (nodes g) 64 (λ m. count_below h.frames (λ i. reached (cell_reach (get_or cells m 0)) && (stage t g h).allowed m (i * h.colours + d)))
    (λ m q. omega (arith, count_le h.frames (λ i. reached (cell_reach (get_or cells m 0)) && (stage t g h).allowed m (i * h.colours + d)))))
    (omega (arith, mul-le-mul {n₁ = g.frames} {m₁ = g.colours} {n₂ = 64} {m₂ = 4} few four)))

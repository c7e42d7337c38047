-- THE BEST OVER FRAMES AND COLOURS, by cost, hold, frame and colour, is the best over frames of
-- the best over the colours from which the colour may be reached; and so with the count. Assumes
-- nothing.
use mathlib.Core.Path.{◌≡◌, refl, sym, ◌∙◌, ap, ap₂, subst}
use mathlib.Core.Bool.{Bool, true, false, ◌&&◌}
use mathlib.Core.List.{List, [], ◌∷◌}
use mathlib.Core.Logic.{◌⊎◌, inl, inr}
use Prim.Native.Nat.{ℕ, suc, ◌+◌, ◌*◌, ◌/◌, ◌%◌, ◌<◌, ◌≤◌}
use native.Mathlib.Nat.{add_assoc, one-mul, zero-mul, mul_comm, eq-or-lt_of_le, suc-mul, mul-le-mul_right}
use native.Mathlib.Decide.{dec_lt}
use native.Mathlib.Omega.{arith}
use lib.ListN.{get_or}
use Rattle.lists.specs.Count.{one_if, sum_below, count_below}
use Rattle.lists.specs.Order.{Precedes}
use Rattle.lists.proofs.Count.{sum_cong, and_both, both_and}
use Rattle.lists.proofs.Sums.{sum_times, sum_pairs}
use Rattle.lists.proofs.Digits.{digit_first, digit_second, digits_back, digits_below, below_first, below_second}
use Rattle.trellis.specs.Trellis.{Reach, Stage}
use Rattle.trellis.specs.Paths.{reached}
use Rattle.trellis.proofs.Survivor.{Offer, none, offer, offer_if, offer_of, Best, nobody, best, best_of}
use Rattle.trellis.proofs.Select.{IsBest, offer_not_none, is_best, best_only}
use Rattle.words.specs.Word.{bit_of}
use Rattle.forwarding.specs.declared.Hop.{Hop}
use Rattle.forwarding.specs.Forwarding.{is_free, MayTurn, may_turn, may_hold, hold_into, delay}
use Rattle.forwarding.specs.Route.{nodes, stage}
use Rattle.forwarding.proofs.Transitions.{may_turn_lem, turn_may}
use Rattle.search.specs.Inner.{cell_reach, way_of, lane_of, offers, low_turn, near_span, by_node, node_from, Nearest, NearRow, counts_into}
use Rattle.search.proofs.Cells.{reach_after, reach_never, way_best, way_nobody}
use Rattle.search.proofs.Landing.{in_order}
use Rattle.search.proofs.Nearing.{near_of, near_in, near_count}

-- the best way, with the node of its frame for the frame
abbrev pub with_node : (ℕ → ℕ) → Best → Best
with_node node nobody = nobody
with_node node (best c r k) = best c r (node k)

pub way_node : (node : ℕ → ℕ) (c D k : ℕ) → way_of c D (node k) ≡ with_node node (way_of c D k)
way_node node c D k =
    elim (dec_lt c 32768) [
      | yes l ↦ way_best c D (node k) l ∙ ap (with_node node) (sym (way_best c D k l))
      | no l ↦ way_nobody c D (node k) (omega arith) ∙ ap (with_node node) (sym (way_nobody c D k (omega arith)))
    ]

-- an order of three numbers, number by number
order_of : (c r k c' r' k' : ℕ) → Precedes (c ∷ r ∷ k ∷ []) (c' ∷ r' ∷ k' ∷ []) → (c ≤ c') × (c ≡ c' → r ≤ r') × (c ≡ c' → r ≡ r' → k ≤ k')
order_of c r k c' r' k' (inl l) = (omega arith, λ e. omega arith, λ e f. omega arith)
order_of c r k c' r' k' (inr (e, inl l)) = (omega arith, λ e. omega arith, λ e f. omega arith)
order_of c r k c' r' k' (inr (e, inr (f, inl l))) = (omega arith, λ e. omega arith, λ e f. omega arith)
order_of c r k c' r' k' (inr (e, inr (f, inr (q, u)))) = (omega arith, λ e. omega arith, λ e f. omega arith)

module _ (T : ℕ) (g h : Hop) (c : ℕ) (laid cells lanes many : List ℕ) (N : NearRow g.colours (low_turn h c) (near_span g h c) laid g.frames cells lanes many) (free : ℕ) (word : free ≡ get_or h.free c 0) (inside : c < h.colours) where
  abbrev C : ℕ
  C = g.colours

  abbrev low : ℕ
  low = low_turn h c

  abbrev st : Stage
  st = stage T g h

  abbrev lane : Stage
  lane = lane_of (delay T h.frames) g h free

  -- the cells by node of the row that is laid by lanes, and the node that is chosen for frame k
  abbrev row : List ℕ
  row = by_node g laid

  abbrev cell : ℕ → ℕ
  cell m = get_or row m 0

  abbrev node : ℕ → ℕ
  node k = node_from C lanes k

  -- frame k of the hop before and its least cell
  near : (k : ℕ) → k < g.frames → Nearest row (k * C + low) (near_span g h c) (get_or cells k 0) (node k) (get_or many k 0)
  near k l = N.each k l

  module _ (i : ℕ) where
    abbrev n : ℕ
    n = i * h.colours + c

    -- whether frame k leads to frame i in its colour, and the hold
    abbrev opens : ℕ → Bool
    opens k = may_hold h (hold_into g h k i) && bit_of free i

    abbrev hold : ℕ → ℕ
    hold k = hold_into g h k i

    -- ---- what a node of the hop before offers, and what a frame does
    node_offers : (m : ℕ) → cell m < 32768
        → offers st row n m ≡ offer_if (may_hold h (hold (m / C)) && (may_turn h (m % C) c && bit_of free i)) (cell m + delay T h.frames (hold (m / C))) (hold (m / C))
    unfolding is_free
    node_offers m l =
        ap (λ (x : Reach). offer_of st n x m) (reach_after (cell m) l)
        ∙ ap₂ (λ (a b : ℕ). offer_if (may_hold h (hold_into g h (m / C) a) && (may_turn h (m % C) b && bit_of (get_or h.free b 0) a)) (cell m + delay T h.frames (hold_into g h (m / C) a)) (hold_into g h (m / C) a))
        (digit_first h.colours i c inside) (digit_second h.colours i c inside)
        ∙ ap (λ (w : ℕ). offer_if (may_hold h (hold (m / C)) && (may_turn h (m % C) c && bit_of w i)) (cell m + delay T h.frames (hold (m / C))) (hold (m / C))) (sym word)

    node_never : (m : ℕ) → 32768 ≤ cell m → offers st row n m ≡ none
    node_never m l = ap (λ (x : Reach). offer_of st n x m) (reach_never (cell m) l)

    frame_offers : (k : ℕ) → get_or cells k 0 < 32768 → offers lane cells i k ≡ offer_if (opens k) (get_or cells k 0 + delay T h.frames (hold k)) (hold k)
    frame_offers k l = ap (λ (x : Reach). offer_of lane i x k) (reach_after (get_or cells k 0) l)

    frame_never : (k : ℕ) → 32768 ≤ get_or cells k 0 → offers lane cells i k ≡ none
    frame_never k l = ap (λ (x : Reach). offer_of lane i x k) (reach_never (get_or cells k 0) l)

    -- an offer, taken apart
    record Into (m x r : ℕ) : Type 0 where
      pub reaches : cell m < 32768
      pub leads : opens (m / C) ≡ true
      pub turns : MayTurn h (m % C) c
      pub costs : x ≡ cell m + delay T h.frames (hold (m / C))
      pub ranks : r ≡ hold (m / C)

    into : (m x r : ℕ) → offers st row n m ≡ offer x r → Into m x r
    into m x r e =
        elim (dec_lt (cell m) 32768) [
          | yes l ↦ go (may_hold h (hold (m / C)) && (may_turn h (m % C) c && bit_of free i)) refl l (sym (node_offers m l) ∙ e)
          | no l ↦ offer_not_none (offers st row n m) x r (node_never m (omega arith)) e
        ]
      where
        go : (b : Bool) → (may_hold h (hold (m / C)) && (may_turn h (m % C) c && bit_of free i)) ≡ b → cell m < 32768
            → offer_if b (cell m + delay T h.frames (hold (m / C))) (hold (m / C)) ≡ offer x r → Into m x r
        go true t l q =
            let a = and_both (may_hold h (hold (m / C))) (may_turn h (m % C) c && bit_of free i) t in
            let b = and_both (may_turn h (m % C) c) (bit_of free i) a.1 in
            let u : cell m + delay T h.frames (hold (m / C)) ≡ x = cc in
            let v : hold (m / C) ≡ r = cc in
            record { reaches = l; leads = both_and (may_hold h (hold (m / C))) (bit_of free i) a.0 b.1; turns = may_turn_lem h (m % C) c b.0; costs = sym u; ranks = sym v }
        go false t l q = absurd (let z : ◌≡◌ {A = ℕ} 0 1 = cc in omega arith)

    record Leads (k x r : ℕ) : Type 0 where
      pub reaches : get_or cells k 0 < 32768
      pub leads : opens k ≡ true
      pub costs : x ≡ get_or cells k 0 + delay T h.frames (hold k)
      pub ranks : r ≡ hold k

    leads_in : (k x r : ℕ) → offers lane cells i k ≡ offer x r → Leads k x r
    leads_in k x r e =
        elim (dec_lt (get_or cells k 0) 32768) [
          | yes l ↦ go (opens k) refl l (sym (frame_offers k l) ∙ e)
          | no l ↦ offer_not_none (offers lane cells i k) x r (frame_never k (omega arith)) e
        ]
      where
        go : (b : Bool) → opens k ≡ b → get_or cells k 0 < 32768 → offer_if b (get_or cells k 0 + delay T h.frames (hold k)) (hold k) ≡ offer x r → Leads k x r
        go true t l q =
            let u : get_or cells k 0 + delay T h.frames (hold k) ≡ x = cc in
            let v : hold k ≡ r = cc in
            record { reaches = l; leads = t; costs = sym u; ranks = sym v }
        go false t l q = absurd (let z : ◌≡◌ {A = ℕ} 0 1 = cc in omega arith)

    -- ---- a node's offer is one of its frame too, at the least cell of the near colours
    record Beside (m x r : ℕ) : Type 0 where
      pub frame_in : m / C < g.frames
      pub near_by : ℕ
      pub near_in_span : near_by < near_span g h c
      pub node_is : m ≡ m / C * C + low + near_by
      pub no_more : get_or cells (m / C) 0 ≤ cell m
      pub offered : offers lane cells i (m / C) ≡ offer (get_or cells (m / C) 0 + delay T h.frames r) r

    beside : (m x r : ℕ) → m < nodes g → Into m x r → Beside m x r
    beside m x r l o =
        let k : ℕ = m / C in
        let kin : k < g.frames = below_first g.frames C m l in
        let w = near_in g h c (m % C) (below_second g.frames C m l) o.turns in
        let at : m ≡ k * C + low + w.0 = sym (digits_back C m) ∙ ap (λ (d : ℕ). k * C + d) w.2 ∙ sym (add_assoc (k * C) low w.0) in
        let most : get_or cells k 0 ≤ cell m = subst (λ (y : ℕ). get_or cells k 0 ≤ cell y) (sym at) ((near k kin).least w.0 w.1) in
        record {
          frame_in = kin;
          near_by = w.0;
          near_in_span = w.1;
          node_is = at;
          no_more = most;
          offered =
              frame_offers k (omega (arith, most, o.reaches))
              ∙ ap (λ (b : Bool). offer_if b (get_or cells k 0 + delay T h.frames (hold k)) (hold k)) o.leads
              ∙ ap (λ (D : ℕ). offer (get_or cells k 0 + delay T h.frames D) D) (sym o.ranks);
        }

    -- ---- and the offer of a frame is that of the node of its least cell
    record Chosen (k x r : ℕ) : Type 0 where
      pub colour : ℕ
      pub few : colour < C
      pub node_is : node k ≡ k * C + colour
      pub cell_is : get_or cells k 0 ≡ cell (node k)
      pub offered : offers st row n (node k) ≡ offer x r

    chosen : (k x r : ℕ) → k < g.frames → Leads k x r → Chosen k x r
    chosen k x r l o =
        let w = (near k l).own o.reaches in
        let u = near_of g h c w.0 w.1 in
        let d : ℕ = low + w.0 in
        let m : ℕ = node k in
        let at : m ≡ k * C + d = w.2 ∙ add_assoc (k * C) low w.0 in
        let same : get_or cells k 0 ≡ cell m = w.3 ∙ ap cell (sym w.2) in
        let first : m / C ≡ k = ap (λ (y : ℕ). y / C) at ∙ digit_first C k d u.0 in
        let second : m % C ≡ d = ap (λ (y : ℕ). y % C) at ∙ digit_second C k d u.0 in
        let turned : may_turn h (m % C) c ≡ true = ap (λ (y : ℕ). may_turn h y c) second ∙ turn_may h d c u.1 in
        let led = and_both (may_hold h (hold k)) (bit_of free i) o.leads in
        let open_is : (may_hold h (hold (m / C)) && (may_turn h (m % C) c && bit_of free i)) ≡ true =
        both_and (may_hold h (hold (m / C))) (may_turn h (m % C) c && bit_of free i) (ap (λ (y : ℕ). may_hold h (hold y)) first ∙ led.0) (both_and (may_turn h (m % C) c) (bit_of free i) turned led.1) in
        record {
          colour = d;
          few = u.0;
          node_is = at;
          cell_is = same;
          offered =
              node_offers m (omega (arith, same, o.reaches))
              ∙ ap (λ (b : Bool). offer_if b (cell m + delay T h.frames (hold (m / C))) (hold (m / C))) open_is
              ∙ ap₂ offer
              (ap₂ (λ (y k' : ℕ). y + delay T h.frames (hold k')) (sym same) first ∙ sym o.costs)
              (ap hold first ∙ sym o.ranks);
        }

    -- ---- THE BEST OF ALL NODES is the node of the best of all frames
    none_left : IsBest (offers lane cells i) g.frames nobody → (m : ℕ) → m < nodes g → (o : Offer) → offers st row n m ≡ o → offers st row n m ≡ none
    none_left b m l none e = e
    none_left b m l (offer x r) e =
        let s = beside m x r l (into m x r e) in
        offer_not_none (offers lane cells i (m / C)) (get_or cells (m / C) 0 + delay T h.frames r) r (b (m / C) s.frame_in) s.offered

    first_of : (x r k : ℕ) → IsBest (offers lane cells i) g.frames (best x r k) → IsBest (offers st row n) (nodes g) (best x r (node k))
    first_of x r k b = (subst (λ (y : ℕ). y < nodes g) (sym u.node_is) (digits_below g.frames C k u.colour b.0 u.few), u.offered, comes_first)
      where
        v : Leads k x r
        v = leads_in k x r b.1

        u : Chosen k x r
        u = chosen k x r b.0 v

        comes_first : (m x' r' : ℕ) → m < nodes g → offers st row n m ≡ offer x' r' → Precedes (x ∷ r ∷ node k ∷ []) (x' ∷ r' ∷ m ∷ [])
        comes_first m x' r' l e = in_order x r (node k) x' r' m costs_more (λ q. ord.1 (tight q)) (λ q s. later q s)
          where
            o : Into m x' r'
            o = into m x' r' e

            s : Beside m x' r'
            s = beside m x' r' l o

            y : ℕ
            y = get_or cells (m / C) 0 + delay T h.frames r'

            paid : x' ≡ cell m + delay T h.frames r'
            paid = o.costs ∙ ap (λ (D : ℕ). cell m + delay T h.frames D) (sym o.ranks)

            ord : (x ≤ y) × (x ≡ y → r ≤ r') × (x ≡ y → r ≡ r' → k ≤ m / C)
            ord = order_of x r k y r' (m / C) (b.2 (m / C) y r' s.frame_in s.offered)

            costs_more : x ≤ x'
            costs_more = omega (arith, ord.0, paid, s.no_more)

            tight : x ≡ x' → x ≡ y
            tight q = omega (arith, ord.0, paid, s.no_more)

            in_frame : m ≡ m / C * C + m % C
            in_frame = sym (digits_back C m)

            later : x ≡ x' → r ≡ r' → node k ≤ m
            later q t = go (eq-or-lt_of_le (ord.2 (tight q) t))
              where
                go : (k ≡ m / C) ⊎ (k < m / C) → node k ≤ m
                go (inr f) = omega (arith, u.node_is, u.few, in_frame, suc-mul k C, mul-le-mul_right {m = suc k} {n = m / C} C f)
                go (inl f) =
                    elim (dec_lt m (node k)) [
                      | yes z ↦
                          let at : m ≡ k * C + low + s.near_by = s.node_is ∙ ap (λ (a : ℕ). a * C + low + s.near_by) (sym f) in
                          let less : get_or cells k 0 < cell m =
                          subst (λ (a : ℕ). get_or cells k 0 < cell a) (sym at) ((near k b.0).smallest v.reaches s.near_by s.near_in_span (subst (λ (a : ℕ). a < node k) at z)) in
                          let same : get_or cells k 0 ≡ get_or cells (m / C) 0 = ap (λ (a : ℕ). get_or cells a 0) f in
                          absurd (omega (arith, less, same, tight q, paid, q))
                      | no z ↦ omega arith
                    ]

    pub colour_best : best_of (offers st row n) (nodes g) ≡ with_node node (best_of (offers lane cells i) g.frames)
    colour_best =
        best_only (offers st row n) (nodes g) (best_of (offers st row n) (nodes g)) (with_node node (best_of (offers lane cells i) g.frames)) (is_best (offers st row n) (nodes g))
        (go (best_of (offers lane cells i) g.frames) (is_best (offers lane cells i) g.frames))
      where
        go : (b : Best) → IsBest (offers lane cells i) g.frames b → IsBest (offers st row n) (nodes g) (with_node node b)
        go nobody b = λ m l. none_left b m l (offers st row n m) refl
        go (best x r k) b = first_of x r k b

    -- where some schedule leads to frame i, the lane of its frame before is a colour's of the hop before
    pub colour_near : (x D k : ℕ) → way_of x D k ≡ best_of (offers lane cells i) g.frames → x < 32768 → get_or lanes k 0 / 64 < C
    colour_near x D k e l =
        let b : IsBest (offers lane cells i) g.frames (best x D k) = subst (IsBest (offers lane cells i) g.frames) (sym e ∙ way_best x D k l) (is_best (offers lane cells i) g.frames) in
        let u = chosen k x D b.0 (leads_in k x D b.1) in
        omega (arith, u.few, u.node_is)

  -- ---- THE COUNT: each frame as often as it is reached in near colours
  lead_count : (a b c' d : Bool) → one_if (a && (b && (c' && d))) ≡ one_if (a && c') * one_if (b && d)
  lead_count true true true d = sym (one-mul (one_if d))
  lead_count true true false d = sym (zero-mul (one_if d))
  lead_count true false true d = refl
  lead_count true false false d = refl
  lead_count false b c' d = sym (zero-mul (one_if (b && d)))

  abbrev leading : ℕ → ℕ
  leading k = count_below h.frames (λ i. may_hold h (hold_into g h k i) && bit_of free i)

  from_node : (k d : ℕ) → d < C → count_below h.frames (λ i. reached (cell_reach (cell (k * C + d))) && st.allowed (k * C + d) (i * h.colours + c))
      ≡ one_if (reached (cell_reach (cell (k * C + d))) && may_turn h d c) * leading k
  unfolding is_free
  from_node k d l =
      sum_cong h.frames (λ i. one_if (reached (cell_reach (cell (k * C + d))) && st.allowed (k * C + d) (i * h.colours + c)))
      (λ i. one_if (may_hold h (hold_into g h k i) && bit_of free i) * one_if (reached (cell_reach (cell (k * C + d))) && may_turn h d c))
      (λ i m. ap one_if (allowed_is i) ∙ lead_count (reached (cell_reach (cell (k * C + d)))) (may_hold h (hold_into g h k i)) (may_turn h d c) (bit_of free i)
      ∙ mul_comm (one_if (reached (cell_reach (cell (k * C + d))) && may_turn h d c)) (one_if (may_hold h (hold_into g h k i) && bit_of free i)))
      ∙ sum_times h.frames (one_if (reached (cell_reach (cell (k * C + d))) && may_turn h d c)) (λ i. one_if (may_hold h (hold_into g h k i) && bit_of free i))
      ∙ mul_comm (leading k) (one_if (reached (cell_reach (cell (k * C + d))) && may_turn h d c))
    where
      allowed_is : (i : ℕ) → (reached (cell_reach (cell (k * C + d))) && (may_hold h (hold_into g h ((k * C + d) / C) ((i * h.colours + c) / h.colours)) && (may_turn h ((k * C + d) % C) ((i * h.colours + c) % h.colours)
          && bit_of (get_or h.free ((i * h.colours + c) % h.colours) 0) ((i * h.colours + c) / h.colours))))
          ≡ (reached (cell_reach (cell (k * C + d))) && (may_hold h (hold_into g h k i) && (may_turn h d c && bit_of free i)))
      allowed_is i = rw (digit_first C k d l, digit_second C k d l, digit_first h.colours i c inside, digit_second h.colours i c inside, word)

  from_frame : (k : ℕ) → k < g.frames → sum_below C (λ d. count_below h.frames (λ i. reached (cell_reach (cell (k * C + d))) && st.allowed (k * C + d) (i * h.colours + c))) ≡ get_or many k 0 * leading k
  from_frame k l =
      sum_cong C (λ d. count_below h.frames (λ i. reached (cell_reach (cell (k * C + d))) && st.allowed (k * C + d) (i * h.colours + c)))
      (λ d. one_if (reached (cell_reach (cell (k * C + d))) && may_turn h d c) * leading k) (λ d m. from_node k d m)
      ∙ sum_times C (leading k) (λ d. one_if (reached (cell_reach (cell (k * C + d))) && may_turn h d c))
      ∙ ap (λ (x : ℕ). x * leading k)
      (near_count g h c (λ d. reached (cell_reach (cell (k * C + d))))
      ∙ sum_cong (near_span g h c) (λ e. one_if (reached (cell_reach (cell (k * C + (low + e)))))) (λ e. one_if (reached (cell_reach (cell (k * C + low + e)))))
      (λ e m. ap (λ (x : ℕ). one_if (reached (cell_reach (cell x)))) (sym (add_assoc (k * C) low e)))
      ∙ sym (near k l).counted)

  pub colour_count : counts_into st row (nodes g) h.frames h.colours c ≡ sum_below g.frames (λ k. get_or many k 0 * leading k)
  colour_count =
      sum_pairs g.frames C (λ m. count_below h.frames (λ i. reached (cell_reach (cell m)) && st.allowed m (i * h.colours + c)))
      ∙ sum_cong g.frames (λ k. sum_below C (λ d. count_below h.frames (λ i. reached (cell_reach (cell (k * C + d))) && st.allowed (k * C + d) (i * h.colours + c)))) (λ k. get_or many k 0 * leading k) from_frame

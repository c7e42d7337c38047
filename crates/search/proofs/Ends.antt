-- The end of a route: the best frame of each colour makes up the best node. Assumes nothing.
use mathlib.Core.Path.{◌≡◌, refl, sym, ◌∙◌, ap, subst}
use mathlib.Core.Bool.{Bool, true, false, ◌&&◌, ◌||◌, cond}
use mathlib.Core.List.{List, [], ◌∷◌}
use mathlib.Core.Logic.{◌⊎◌, inl, inr}
use Prim.Native.Nat.{ℕ, suc, ◌+◌, ◌*◌, ◌/◌, ◌%◌, ◌<◌, ◌≤◌}
use native.Mathlib.Nat.{eq-or-lt_of_le, suc-mul, mul-le-mul_right}
use native.Mathlib.Decide.{dec_lt}
use native.Mathlib.Omega.{arith}
use lib.Dec.{eqb, ltb}
use lib.ListN.{get_or, length, take, drop, length-drop}
use lib.Seq.{length-take-le, get_or-take}
use Rattle.std.proofs.lemmas.List.{get_or-drop}
use borrow.Author.Tests.{ltb-true, ltb-false, eqb-true, eqb-false}
use Rattle.lists.specs.Order.{Precedes}
use Rattle.lists.proofs.Digits.{digits_back, digits_below, below_first, below_second}
use Rattle.lists.proofs.Order.{precedes_head}
use Rattle.trellis.proofs.Survivor.{Offer, none, offer, nobody, best, best_of, last_offer}
use Rattle.trellis.proofs.Select.{IsBest, offer_not_none, is_best, best_only}
use Rattle.forwarding.specs.declared.Hop.{Hop}
use Rattle.forwarding.specs.Route.{nodes}
use Rattle.search.specs.Inner.{cell_reach, way_of, node_in, by_node, end_offers, lane_offers, end_sooner, EndOf}
use Rattle.search.proofs.Cells.{reach_after, reach_never, way_best, way_nobody}
use Rattle.search.proofs.Placing.{node_cell, place_back}
use Rattle.search.proofs.Landing.{in_order}
use Rattle.search.proofs.Sweeping.{best_cong}

-- the frames of a lane, read as a list of their own
pub lane_listed : (row : List ℕ) (c frames n : ℕ) → n ≡ frames → 64 * c + frames ≤ length row
    → best_of (end_offers (take n (drop (64 * c) row))) (length (take n (drop (64 * c) row))) ≡ best_of (lane_offers row c) frames
lane_listed row c frames n e h =
    let long : length (take n (drop (64 * c) row)) ≡ frames = length-take-le n (drop (64 * c) row) (omega (arith, length-drop (64 * c) row)) ∙ e in
    rw long (best_cong (end_offers (take n (drop (64 * c) row))) (lane_offers row c) frames (λ k l.
    ap (λ (x : ℕ). last_offer (cell_reach x)) (get_or-take n (drop (64 * c) row) k 0 (omega arith) ∙ get_or-drop (64 * c) row k 0)))

-- what a cell offers as an end
end_offers_lem : (x : ℕ) → x < 32768 → last_offer (cell_reach x) ≡ offer x 0
end_offers_lem x l = ap last_offer (reach_after x l)

end_none : (x : ℕ) → 32768 ≤ x → last_offer (cell_reach x) ≡ none
end_none x l = ap last_offer (reach_never x l)

same_offer : (o : Offer) (a r b s : ℕ) → o ≡ offer a r → o ≡ offer b s → (a ≡ b) × (r ≡ s)
same_offer o a r b s p q =
    let x : a ≡ b = cc in
    let y : r ≡ s = cc in
    (x, y)

-- an offer, taken apart
end_offered : (x a r : ℕ) → last_offer (cell_reach x) ≡ offer a r → (x < 32768) × (a ≡ x) × (r ≡ 0)
end_offered x a r e =
    elim (dec_lt x 32768) [
      | yes l ↦ let s = same_offer (last_offer (cell_reach x)) a r x 0 e (end_offers_lem x l) in (l, s.0, s.1)
      | no l ↦ offer_not_none (last_offer (cell_reach x)) a r (end_none x (omega arith)) e
    ]

frame_order : (c k c' k' : ℕ) → Precedes (c ∷ 0 ∷ k ∷ []) (c' ∷ 0 ∷ k' ∷ []) → c ≡ c' → k ≤ k'
frame_order c k c' k' (inl l) e = omega arith
frame_order c k c' k' (inr (p, inl l)) e = omega arith
frame_order c k c' k' (inr (p, inr (q, inl l))) e = omega arith
frame_order c k c' k' (inr (p, inr (q, inr (r, u)))) e = omega arith

-- ---- the best frame of a lane
pub few_chosen : (y : Bool) (f g : ℕ) → f < 64 → g < 64 → cond y g f < 64
few_chosen true f g a b = b
few_chosen false f g a b = a

record LaneEnd (row : List ℕ) (c K key frame : ℕ) : Type 0 where
  -- a number that passes neither the key nor NEVER passes no cell
  pub least : (m : ℕ) → m ≤ 32768 → m ≤ key → (i : ℕ) → i < K → m ≤ get_or row (64 * c + i) 0
  pub inside : key < 32768 → frame < K
  pub own : key < 32768 → get_or row (64 * c + frame) 0 ≡ key
  pub first : key < 32768 → (i : ℕ) → i < K → get_or row (64 * c + i) 0 ≡ key → frame ≤ i

lane_end : (row : List ℕ) (c K key frame : ℕ) → way_of key 0 frame ≡ best_of (lane_offers row c) K → LaneEnd row c K key frame
lane_end row c K key frame e =
    let b : IsBest (lane_offers row c) K (way_of key 0 frame) = subst (IsBest (lane_offers row c) K) (sym e) (is_best (lane_offers row c) K) in
    elim (dec_lt key 32768) [
      | yes l ↦ some l (subst (IsBest (lane_offers row c) K) (way_best key 0 frame l) b)
      | no l ↦ nothing (omega arith) (subst (IsBest (lane_offers row c) K) (way_nobody key 0 frame (omega arith)) b)
    ]
  where
    cell : ℕ → ℕ
    cell i = get_or row (64 * c + i) 0

    some : key < 32768 → IsBest (lane_offers row c) K (best key 0 frame) → LaneEnd row c K key frame
    some l b =
        let later : (i : ℕ) → i < K → cell i < 32768 → Precedes (key ∷ 0 ∷ frame ∷ []) (cell i ∷ 0 ∷ i ∷ []) = λ i h m. b.2 i (cell i) 0 h (end_offers_lem (cell i) m) in
        record {
          least = λ m a d i h. elim (dec_lt (cell i) 32768) [
            | yes q ↦ omega (arith, precedes_head key (cell i) (0 ∷ frame ∷ []) (0 ∷ i ∷ []) (later i h q), d)
            | no q ↦ omega arith
          ];
          inside = λ _. b.0;
          own = λ _. sym (end_offered (cell frame) key 0 b.1).1;
          first = λ _ i h q. frame_order key frame (cell i) i (later i h (omega (arith, q, l))) (sym q);
        }

    nothing : 32768 ≤ key → IsBest (lane_offers row c) K nobody → LaneEnd row c K key frame
    nothing l b = record {
      least = λ m a d i h. elim (dec_lt (cell i) 32768) [
        | yes q ↦ offer_not_none (last_offer (cell_reach (cell i))) (cell i) 0 (b i h) (end_offers_lem (cell i) q)
        | no q ↦ omega arith
      ];
      inside = λ q. absurd (omega arith);
      own = λ q. absurd (omega arith);
      first = λ q. absurd (omega arith);
    }

-- ---- the best end of the colours below c
pub end_none_yet : (row : List ℕ) (K : ℕ) → EndOf row K 0 32768 0
end_none_yet row K = record {
  most = omega arith;
  least = λ c i l. absurd (omega arith);
  colour = λ l. absurd (omega arith);
  frame = λ l. absurd (omega arith);
  own = λ l. absurd (omega arith);
  first = λ l. absurd (omega arith);
}

-- a colour below c + 1 is below c or c
below_one : {A : Type 0} (c d : ℕ) → d < c + 1 → (d < c → A) → (d ≡ c → A) → A
below_one {A} c d h below last =
    elim (dec_lt d c) [
      | yes l ↦ below l
      | no l ↦ last (omega arith)
    ]

module _ (row : List ℕ) (K c a p b f q : ℕ) (few : f < 64) (at : q ≡ 64 * c + f) (E : EndOf row K c a p) (L : LaneEnd row c K b f) where
  frame_is : q % 64 ≡ f
  frame_is = omega (arith, at, few)

  colour_is : q / 64 ≡ c
  colour_is = omega (arith, at, few)

  cell_at : (d i : ℕ) → d ≡ c → get_or row (64 * d + i) 0 ≡ get_or row (64 * c + i) 0
  cell_at d i e = ap (λ (x : ℕ). get_or row (64 * x + i) 0) e

  takes_other : b ≤ a → (a ≡ b → a < 32768 → f < p % 64) → EndOf row K (c + 1) b q
  takes_other le tie = record {
    most = omega (arith, E.most);
    least = λ d i h k. below_one c d h (λ l. omega (arith, E.least d i l k, le)) (λ l. omega (arith, cell_at d i l, L.least b (omega (arith, E.most)) (omega arith) i k));
    colour = λ l. omega (arith, colour_is);
    frame = λ l. omega (arith, frame_is, L.inside l);
    own = λ l. ap (λ (x : ℕ). get_or row x 0) at ∙ L.own l;
    first = λ l d i h k s. below_one c d h
        (λ m.
        let e : a ≡ b = omega (arith, E.least d i m k, s, le) in
        let o = E.first (omega (arith, e, l)) d i m k (s ∙ sym e) in
        let z : f < p % 64 = tie e (omega (arith, e, l)) in
        (λ x. absurd (omega (arith, x, frame_is, z, o.1)), omega (arith, frame_is, z, o.1)))
        (λ m. (λ x. omega (arith, colour_is, m), omega (arith, frame_is, L.first l i k (sym (cell_at d i m) ∙ s))));
  }

  keeps_first : a ≤ b → (a ≡ b → p % 64 ≤ f) → EndOf row K (c + 1) a p
  keeps_first le tie = record {
    most = E.most;
    least = λ d i h k. below_one c d h (λ l. E.least d i l k) (λ l. omega (arith, cell_at d i l, L.least a E.most le i k));
    colour = λ l. omega (arith, E.colour l);
    frame = E.frame;
    own = E.own;
    first = λ l d i h k s. below_one c d h (λ m. E.first l d i m k s)
        (λ m.
        let here : get_or row (64 * c + i) 0 ≡ a = sym (cell_at d i m) ∙ s in
        elim (dec_lt a b) [
          | yes x ↦ absurd (omega (arith, here, l, L.least (a + 1) (omega arith) (omega arith) i k))
          | no x ↦ let e : a ≡ b = omega arith in (λ y. omega (arith, E.colour l, m), omega (arith, tie e, L.first (omega (arith, e, l)) i k (here ∙ e)))
        ]);
  }

  chooses : (r s : ℕ) → r ≡ cond (end_sooner a p b q) b a → s ≡ cond (end_sooner a p b q) q p → EndOf row K (c + 1) r s
  chooses r s x y = rw (x, y) (go (ltb b a) refl (eqb b a) refl (ltb (q % 64) (p % 64)) refl)
    where
      go : (u : Bool) → ltb b a ≡ u → (v : Bool) → eqb b a ≡ v → (w : Bool) → ltb (q % 64) (p % 64) ≡ w
          → EndOf row K (c + 1) (cond (u || (v && w)) b a) (cond (u || (v && w)) q p)
      go true d v e w g = let z : b < a = ltb-true b a d in takes_other (omega arith) (λ m. absurd (omega arith))
      go false d true e true g =
          let z : b ≡ a = eqb-true b a e in
          let o : q % 64 < p % 64 = ltb-true (q % 64) (p % 64) g in
          takes_other (omega arith) (λ _ _. omega (arith, frame_is))
      go false d true e false g =
          let z : b ≡ a = eqb-true b a e in
          let o : p % 64 ≤ q % 64 = ltb-false (q % 64) (p % 64) g in
          keeps_first (omega arith) (λ _. omega (arith, frame_is))
      go false d false e w g =
          let z : a ≤ b = ltb-false b a d in
          keeps_first z (λ m. absurd (eqb-false b a e (sym m)))

pub end_more : (row : List ℕ) (K c a p b f q r s : ℕ) → EndOf row K c a p → way_of b 0 f ≡ best_of (lane_offers row c) K → f < 64 → q ≡ 64 * c + f
    → r ≡ cond (end_sooner a p b q) b a → s ≡ cond (end_sooner a p b q) q p → EndOf row K (c + 1) r s
end_more row K c a p b f q r s E e few at x y = chooses row K c a p b f q few at E (lane_end row c K b f e) r s x y

-- an end that no schedule leads to
pub end_never : (row : List ℕ) (K C key place : ℕ) → EndOf row K C key place → 32768 ≤ key → EndOf row K C 32768 0
end_never row K C key place E n = record {
  most = omega arith;
  least = λ c i l k. omega (arith, E.least c i l k, n);
  colour = λ l. absurd (omega arith);
  frame = λ l. absurd (omega arith);
  own = λ l. absurd (omega arith);
  first = λ l. absurd (omega arith);
}

-- ---- the best place is the best node
module _ (h : Hop) (row : List ℕ) (key place : ℕ) (E : EndOf row h.frames h.colours key place) where
  abbrev C : ℕ
  C = h.colours

  abbrev K : ℕ
  K = h.frames

  abbrev cells : List ℕ
  cells = by_node h row

  cell_is : (m : ℕ) → m < nodes h → get_or cells m 0 ≡ get_or row (64 * (m % C) + m / C) 0
  cell_is m l = node_cell C (nodes h) row m l

  no_less : (m : ℕ) → m < nodes h → key ≤ get_or cells m 0
  no_less m l = rw (cell_is m l) (E.least (m % C) (m / C) (below_second K C m l) (below_first K C m l))

  pub end_in : key < 32768 → node_in C place < nodes h
  end_in l = digits_below K C (place % 64) (place / 64) (E.frame l) (E.colour l)

  own_cell : key < 32768 → get_or cells (node_in C place) 0 ≡ key
  own_cell l = node_cell C (nodes h) row (node_in C place) (end_in l) ∙ ap (λ (x : ℕ). get_or row x 0) (place_back C place (E.colour l)) ∙ E.own l

  comes_first : key < 32768 → (m : ℕ) → m < nodes h → get_or cells m 0 ≡ key → node_in C place ≤ m
  comes_first l m i e = go (eq-or-lt_of_le o.1)
    where
      o : (m / C ≡ place % 64 → place / 64 ≤ m % C) × (place % 64 ≤ m / C)
      o = E.first l (m % C) (m / C) (below_second K C m i) (below_first K C m i) (sym (cell_is m i) ∙ e)

      go : (place % 64 ≡ m / C) ⊎ (place % 64 < m / C) → node_in C place ≤ m
      go (inl x) = omega (arith, digits_back C m, ap (λ (y : ℕ). y * C) x, o.0 (sym x))
      go (inr x) = omega (arith, digits_back C m, E.colour l, suc-mul (place % 64) C, mul-le-mul_right {m = suc (place % 64)} {n = m / C} C x)

  pub end_best : way_of key 0 (node_in C place) ≡ best_of (end_offers cells) (nodes h)
  end_best =
      best_only (end_offers cells) (nodes h) (way_of key 0 (node_in C place)) (best_of (end_offers cells) (nodes h))
      (elim (dec_lt key 32768) [
        | yes l ↦ subst (IsBest (end_offers cells) (nodes h)) (sym (way_best key 0 (node_in C place) l)) (some l)
        | no l ↦ subst (IsBest (end_offers cells) (nodes h)) (sym (way_nobody key 0 (node_in C place) (omega arith))) (λ m i. end_none (get_or cells m 0) (omega (arith, no_less m i)))
      ])
      (is_best (end_offers cells) (nodes h))
    where
      some : key < 32768 → IsBest (end_offers cells) (nodes h) (best key 0 (node_in C place))
      some l = (
        end_in l,
        ap (λ (x : ℕ). last_offer (cell_reach x)) (own_cell l) ∙ end_offers_lem key l,
        λ m c r i e.
            let s = end_offered (get_or cells m 0) c r e in
            in_order key 0 (node_in C place) c r m (omega (arith, s.1, no_less m i)) (λ x. omega (arith, s.2)) (λ x y. comes_first l m i (sym s.1 ∙ sym x)),
      )

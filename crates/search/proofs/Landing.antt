-- The best of the window of frames that ends with a frame is the best way into it. Assumes nothing.
use mathlib.Core.Path.{◌≡◌, refl, sym, ◌∙◌, ap, ap₂, subst}
use mathlib.Core.Bool.{Bool, true, false, ◌&&◌, cond}
use mathlib.Core.List.{List, [], ◌∷◌}
use mathlib.Core.Logic.{◌⊎◌, inl, inr}
use Prim.Native.Nat.{ℕ, ◌+◌, ◌-◌, ◌*◌, ◌%◌, ◌<◌, ◌≤◌, min}
use native.Mathlib.Nat.{mod-lt, add-mul, eq-or-lt_of_le}
use native.Mathlib.Decide.{dec_lt}
use native.Mathlib.Omega.{arith}
use lib.Dec.{ltb}
use lib.ListN.{get_or}
use borrow.Author.Tests.{ltb-true, lt-ltb}
use Rattle.lists.specs.Order.{Precedes}
use Rattle.lists.proofs.Count.{and_both, both_and}
use Rattle.trellis.specs.Trellis.{Reach, Stage}
use Rattle.trellis.proofs.Survivor.{Offer, none, offer, offer_if, offer_of, nobody, best, best_of}
use Rattle.trellis.proofs.Select.{offer_not_none, is_best, best_only}
use Rattle.words.specs.Word.{bit_of}
use Rattle.forwarding.specs.declared.Hop.{Hop}
use Rattle.forwarding.specs.Forwarding.{reference_into, least_hold, gap, may_hold, hold_into}
use Rattle.forwarding.proofs.Holds.{into_gap}
use Rattle.forwarding.proofs.Windows.{first_frame}
use Rattle.search.specs.Inner.{way_of, cell_if, Within, Latest, key_at, Opens, key_from, Gathers, offers}
use Rattle.search.proofs.Cells.{reach_after, reach_never, way_best, way_nobody}
use Rattle.search.proofs.Positions.{cycle_most, frame_in, gap_position, times_split, position_of}
use Rattle.search.proofs.Gathering.{within_time}
use Rattle.search.proofs.Counting.{lane_by}

-- the order of costs, ranks and nodes, number by number
pub in_order : (c r k c' r' k' : ℕ) → c ≤ c' → (c ≡ c' → r ≤ r') → (c ≡ c' → r ≡ r' → k ≤ k') → Precedes (c ∷ r ∷ k ∷ []) (c' ∷ r' ∷ k' ∷ [])
in_order c r k c' r' k' a b d = one (eq-or-lt_of_le a)
  where
    three : c ≡ c' → r ≡ r' → (k ≡ k') ⊎ (k < k') → Precedes (c ∷ r ∷ k ∷ []) (c' ∷ r' ∷ k' ∷ [])
    three p q (inl x) = inr (p, inr (q, inr (x, tt)))
    three p q (inr x) = inr (p, inr (q, inl x))

    two : c ≡ c' → (r ≡ r') ⊎ (r < r') → Precedes (c ∷ r ∷ k ∷ []) (c' ∷ r' ∷ k' ∷ [])
    two p (inl x) = three p x (eq-or-lt_of_le (d p x))
    two p (inr x) = inr (p, inl x)

    one : (c ≡ c') ⊎ (c < c') → Precedes (c ∷ r ∷ k ∷ []) (c' ∷ r' ∷ k' ∷ [])
    one (inl x) = two x (eq-or-lt_of_le (b x))
    one (inr x) = inl x

module _ (time : ℕ) (g h : Hop) (w free : ℕ) (cells keys froms : List ℕ) (some : 0 < h.frames) (least : least_hold h ≤ h.frames) (short : h.frames * time ≤ 960) (opens : Opens h w free)
    (small : (m : ℕ) → m < g.frames → Within 5760 (get_or cells m 0)) (G : Gathers (first_frame g h) time h.frames cells g.frames keys froms) where
  abbrev K : ℕ
  K = h.frames

  abbrev Y : ℕ
  Y = least_hold h

  abbrev first : ℕ → ℕ
  first = first_frame g h

  abbrev key : ℕ → ℕ
  key = key_at (K * time) K keys

  abbrev st : Stage
  st = lane_by time g h free

  first_in : (k : ℕ) → first k < K
  first_in k = mod-lt (reference_into g h k + least_hold h) some

  -- no key that some cell leads to is larger than six cycles and one more
  reached_small : (a : ℕ) → a < K → get_or keys a 0 < 32768 → get_or keys a 0 ≤ 6720
  reached_small a l m =
      let o = G.own a l m in
      omega (arith, o.2, (small (get_or froms a 0) o.0).ticks (omega (arith, o.2)), within_time time K (K - a) (omega arith) short)

  module _ (i : ℕ) (inside : i < K) where
    -- ---- the key of a position that lies before frame i, by the cell of its frame
    module _ (p : ℕ) (behind : i < p) (upto : p ≤ i + K) where
      key_of : key p ≡ get_or keys (p % K) 0 + cond (ltb p K) (K * time) 0
      unfolding key_at
      key_of = refl

      key_is : (x : ℕ) → get_or keys (p % K) 0 ≡ x + (K - p % K) * time → key p ≡ x + ((i + K - p) * time + (K - i) * time)
      key_is x e = omega (arith, key_of, times_split K i p inside behind upto time)

      key_most : (x : ℕ) → get_or keys (p % K) 0 ≤ x + (K - p % K) * time → key p ≤ x + ((i + K - p) * time + (K - i) * time)
      key_most x e = omega (arith, key_of, times_split K i p inside behind upto time)

      -- a frame that nothing leads to has no cell at i either
      key_never : 32768 ≤ get_or keys (p % K) 0 → 32768 + (K - i) * time ≤ key p
      key_never e = omega (arith, key_of, times_split K i p inside behind upto time, G.waits (p % K) (frame_in K i p inside behind upto) e)

      key_reached : get_or keys (p % K) 0 < 32768 → key p < 32768
      key_reached e = omega (arith, key_of, reached_small (p % K) (frame_in K i p inside behind upto) e, cycle_most (ltb p K) (K * time), short)

      -- the hold into frame i from a frame that is led there first
      hold_at : (k : ℕ) → first k ≡ p % K → hold_into g h k i ≡ Y + (i + K - p)
      hold_at k e = into_gap g h k i ∙ ap (λ (x : ℕ). Y + x) (ap (λ (a : ℕ). gap K a i) e ∙ gap_position K i p inside behind upto)

      -- whether the transition is allowed
      allowed_at : (k : ℕ) → first k ≡ p % K → (may_hold h (hold_into g h k i) && bit_of free i) ≡ (ltb (i + K - p) w && bit_of free i)
      allowed_at k e = opens.same g k i ∙ ap (λ (x : ℕ). ltb x w && bit_of free i) (ap (λ (a : ℕ). gap K a i) e ∙ gap_position K i p inside behind upto)

      -- what the frame k offers
      offers_at : (k : ℕ) → first k ≡ p % K → get_or cells k 0 < 32768
          → offers st cells i k ≡ offer_if (ltb (i + K - p) w && bit_of free i) (get_or cells k 0 + (Y + (i + K - p)) * time) (Y + (i + K - p))
      offers_at k e l =
          ap (λ (x : Reach). offer_of st i x k) (reach_after (get_or cells k 0) l)
          ∙ ap (λ (b : Bool). offer_if b (get_or cells k 0 + hold_into g h k i * time) (hold_into g h k i)) (allowed_at k e)
          ∙ ap (λ (D : ℕ). offer_if (ltb (i + K - p) w && bit_of free i) (get_or cells k 0 + D * time) D) (hold_at k e)

    offers_never : (k : ℕ) → 32768 ≤ get_or cells k 0 → offers st cells i k ≡ none
    offers_never k l = ap (λ (x : Reach). offer_of st i x k) (reach_never (get_or cells k 0) l)

    -- an offer comes from a reached frame, over a position within the window
    record Reaching (k c r : ℕ) : Type 0 where
      pub position : ℕ
      pub stands : first k ≡ position % K
      pub behind : i < position
      pub upto : position ≤ i + K
      pub near : i + K < position + w
      pub reached : get_or cells k 0 < 32768
      pub costs : c ≡ get_or cells k 0 + (Y + (i + K - position)) * time
      pub ranks : r ≡ Y + (i + K - position)
      pub into_free : bit_of free i ≡ true

    offered : (k c r : ℕ) → offers st cells i k ≡ offer c r → Reaching k c r
    offered k c r e =
        elim (dec_lt (get_or cells k 0) 32768) [
          | yes l ↦ go (ltb (i + K - P.0) w && bit_of free i) refl l (sym (offers_at P.0 P.2 P.3 k (sym P.1) l) ∙ e)
          | no l ↦ offer_not_none (offers st cells i k) c r (offers_never k (omega arith)) e
        ]
      where
        P : (p : ℕ) × (p % K ≡ first k) × (i < p) × (p ≤ i + K)
        P = position_of K (first k) i (first_in k) inside

        go : (b : Bool) → (ltb (i + K - P.0) w && bit_of free i) ≡ b → get_or cells k 0 < 32768
            → offer_if b (get_or cells k 0 + (Y + (i + K - P.0)) * time) (Y + (i + K - P.0)) ≡ offer c r → Reaching k c r
        go true t l q =
            let x : get_or cells k 0 + (Y + (i + K - P.0)) * time ≡ c = cc in
            let y : Y + (i + K - P.0) ≡ r = cc in
            record {
              position = P.0;
              stands = sym P.1;
              behind = P.2;
              upto = P.3;
              near = omega (arith, P.3, ltb-true (i + K - P.0) w (and_both (ltb (i + K - P.0) w) (bit_of free i) t).0);
              reached = l;
              costs = sym x;
              ranks = sym y;
              into_free = (and_both (ltb (i + K - P.0) w) (bit_of free i) t).1;
            }
        go false t l q = absurd (let z : ◌≡◌ {A = ℕ} 0 1 = cc in omega arith)

    -- nothing is offered
    none_best : ((k c r : ℕ) → k < g.frames → Reaching k c r → ⊥) → nobody ≡ best_of (offers st cells i) g.frames
    none_best nothing =
        best_only (offers st cells i) g.frames nobody (best_of (offers st cells i) g.frames) (λ k l. go k l (offers st cells i k) refl) (is_best (offers st cells i) g.frames)
      where
        go : (k : ℕ) → k < g.frames → (o : Offer) → offers st cells i k ≡ o → offers st cells i k ≡ none
        go k l none e = e
        go k l (offer c r) e = absurd (nothing k c r l (offered k c r e))

    -- ---- the position that is picked for frame i
    module _ (p : ℕ) (L : Latest key (i + K) w p) where
      behind_i : i < p
      behind_i = omega (arith, L.begins, opens.within)

      -- from the frame that is picked
      abbrev from : ℕ
      from = get_or froms (p % K) 0

      abbrev hold : ℕ
      hold = Y + (i + K - p)

      module _ (reach : get_or keys (p % K) 0 < 32768) where
        owned : (from < g.frames) × (first from ≡ p % K) × (get_or keys (p % K) 0 ≡ key_from time K cells (p % K) from)
        owned = G.own (p % K) (frame_in K i p inside behind_i L.ends) reach

        cell_reached : get_or cells from 0 < 32768
        cell_reached = omega (arith, owned.2)

        key_picked : key p ≡ get_or cells from 0 + ((i + K - p) * time + (K - i) * time)
        key_picked = key_is p behind_i L.ends (get_or cells from 0) owned.2

        split : (x : ℕ) → (Y + x) * time ≡ Y * time + x * time
        split x = add-mul Y x time

        offers_picked : bit_of free i ≡ true → offers st cells i from ≡ offer (get_or cells from 0 + hold * time) hold
        offers_picked shown =
            offers_at p behind_i L.ends from owned.1 cell_reached
            ∙ ap (λ (b : Bool). offer_if b (get_or cells from 0 + hold * time) hold) (both_and (ltb (i + K - p) w) (bit_of free i) (lt-ltb (i + K - p) w (omega (arith, L.begins, L.ends))) shown)

        -- ANY OTHER OFFER COMES LATER
        comes_first : (j c r : ℕ) → j < g.frames → Reaching j c r → Precedes ((get_or cells from 0 + hold * time) ∷ hold ∷ from ∷ []) (c ∷ r ∷ j ∷ [])
        comes_first j c r l o = in_order (get_or cells from 0 + hold * time) hold from c r j costs_more holds_longer comes_later
          where
            theirs : get_or keys (first j) 0 ≤ get_or cells j 0 + (K - first j) * time
            theirs = G.least j l

            key_there : key o.position ≤ get_or cells j 0 + ((i + K - o.position) * time + (K - i) * time)
            key_there = key_most o.position o.behind o.upto (get_or cells j 0) (subst (λ (a : ℕ). get_or keys a 0 ≤ get_or cells j 0 + (K - a) * time) o.stands theirs)

            picked_least : key p ≤ key o.position
            picked_least = L.least o.position o.near o.upto

            costs_more : get_or cells from 0 + hold * time ≤ c
            costs_more = omega (arith, o.costs, split (i + K - p), split (i + K - o.position), key_there, picked_least, key_picked)

            no_later : get_or cells from 0 + hold * time ≡ c → o.position ≤ p
            no_later e = elim (dec_lt p o.position) [
              | yes x ↦ absurd (omega (arith, L.latest o.position x o.upto, o.costs, split (i + K - p), split (i + K - o.position), key_there, key_picked))
              | no x ↦ omega arith
            ]

            holds_longer : get_or cells from 0 + hold * time ≡ c → hold ≤ r
            holds_longer e = omega (arith, no_later e, o.ranks, L.ends, o.upto)

            comes_later : get_or cells from 0 + hold * time ≡ c → hold ≡ r → from ≤ j
            comes_later e s =
                let same : o.position ≡ p = omega (arith, o.ranks, L.ends, o.upto) in
                let at : first j ≡ p % K = o.stands ∙ ap (λ (x : ℕ). x % K) same in
                let equal : get_or cells from 0 ≡ get_or cells j 0 = omega (arith, o.costs, ap (λ (x : ℕ). (Y + (i + K - x)) * time) same) in
                elim (dec_lt j from) [
                  | yes x ↦ absurd (omega (arith, earlier at x, owned.2))
                  | no x ↦ omega arith
                ]
              where
                earlier : first j ≡ p % K → j < from → get_or keys (p % K) 0 < key_from time K cells (p % K) j
                earlier at x =
                    subst (λ (a : ℕ). get_or keys a 0 < key_from time K cells a j) at
                    (G.smallest j l (subst (λ (a : ℕ). get_or keys a 0 < 32768) (sym at) reach) (subst (λ (a : ℕ). j < get_or froms a 0) (sym at) x))

        -- THE BEST OF THE WINDOW IS THE BEST OF ALL
        best_picked : bit_of free i ≡ true → best (get_or cells from 0 + hold * time) hold from ≡ best_of (offers st cells i) g.frames
        best_picked shown =
            best_only (offers st cells i) g.frames (best (get_or cells from 0 + hold * time) hold from) (best_of (offers st cells i) g.frames)
            (owned.0, offers_picked shown, λ j c r l e. comes_first j c r l (offered j c r e)) (is_best (offers st cells i) g.frames)

      -- nothing leads to any frame of the window
      none_picked : 32768 ≤ get_or keys (p % K) 0 → nobody ≡ best_of (offers st cells i) g.frames
      none_picked far =
          none_best (λ k c r l o.
          let low : get_or keys (first k) 0 < 32768 = omega (arith, G.least k l, (small k l).ticks o.reached, within_time time K (K - first k) (omega arith) short) in
          omega (
            arith,
            key_never p behind_i L.ends far,
            L.least o.position o.near o.upto,
            key_reached o.position o.behind o.upto (subst (λ (a : ℕ). get_or keys a 0 < 32768) o.stands low),
          ))

      -- WHAT IS STORED OF A FRAME IS THE BEST WAY INTO IT, with some hold
      module _ (lead next pred : ℕ) (led : lead ≡ Y * time) (stored : next ≡ cell_if free i (min (key p + lead - (K - i) * time) 32768)) (from_is : pred ≡ from) where
        -- the cell, where the frame is free
        open_cell : bit_of free i ≡ true → next ≡ min (key p + lead - (K - i) * time) 32768
        open_cell t = stored ∙ ap (λ (b : Bool). cond b (min (key p + lead - (K - i) * time) 32768) 32768) t

        reached_cell : get_or keys (p % K) 0 < 32768 → bit_of free i ≡ true → (next ≡ get_or cells from 0 + hold * time) × (next < 32768)
        reached_cell m t =
            let v : key p + lead - (K - i) * time ≡ get_or cells from 0 + hold * time = omega (arith, key_picked m, split m (i + K - p)) in
            let l : get_or cells from 0 + hold * time < 32768 =
            omega (
              arith,
              (small from (owned m).0).ticks (cell_reached m),
              split m (i + K - p),
              within_time time K Y least short,
              within_time time K (i + K - p) (omega (arith, behind_i)) short,
            ) in
            (omega (arith, open_cell t), omega (arith, open_cell t))

        never_cell : 32768 ≤ get_or keys (p % K) 0 → bit_of free i ≡ true → next ≡ 32768
        never_cell m t = omega (arith, open_cell t, key_never p behind_i L.ends m)

        shut_cell : bit_of free i ≡ false → next ≡ 32768
        shut_cell t = stored ∙ ap (λ (b : Bool). cond b (min (key p + lead - (K - i) * time) 32768) 32768) t

        pub landed : (D : ℕ) × (way_of next D pred ≡ best_of (offers st cells i) g.frames)
        landed = go (bit_of free i) refl (dec_lt (get_or keys (p % K) 0) 32768)
          where
            go : (b : Bool) → bit_of free i ≡ b → Dec (get_or keys (p % K) 0 < 32768) → (D : ℕ) × (way_of next D pred ≡ best_of (offers st cells i) g.frames)
            go false t d = (0, way_nobody next 0 pred (omega (arith, shut_cell t)) ∙ none_best (λ k c r l o. let z : true ≡ false = sym o.into_free ∙ t in absurd (let y : ◌≡◌ {A = ℕ} 0 1 = cc in omega arith)))
            go true t (yes m) =
                (hold, way_best next hold pred (reached_cell m t).1 ∙ ap₂ (λ (c k : ℕ). best c hold k) (reached_cell m t).0 from_is ∙ best_picked m t)
            go true t (no m) = (0, way_nobody next 0 pred (omega (arith, never_cell (omega arith) t)) ∙ none_picked (omega arith))

        pub landed_most : next ≤ 32768
        landed_most = go (bit_of free i) refl (dec_lt (get_or keys (p % K) 0) 32768)
          where
            go : (b : Bool) → bit_of free i ≡ b → Dec (get_or keys (p % K) 0 < 32768) → next ≤ 32768
            go false t d = omega (arith, shut_cell t)
            go true t (yes m) = omega (arith, (reached_cell m t).1)
            go true t (no m) = omega (arith, never_cell (omega arith) t)

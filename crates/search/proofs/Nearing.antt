-- Of each frame of the hop before the best of the colours from which a colour may be reached.
-- Assumes nothing.
use mathlib.Core.Path.{◌≡◌, refl, sym, ◌∙◌, ap, ap₂}
use mathlib.Core.Bool.{Bool, true, false, ◌&&◌, cond}
use mathlib.Core.List.{List}
use mathlib.Core.Logic.{⊎_elim}
use Prim.Native.Nat.{ℕ, ◌+◌, ◌-◌, ◌<◌, ◌≤◌}
use native.Mathlib.Nat.{eq-or-lt_of_le}
use native.Mathlib.Numerals.{add-one}
use native.Mathlib.Decide.{dec_lt}
use native.Mathlib.Omega.{arith}
use lib.Dec.{ltb}
use lib.ListN.{get_or}
use borrow.Author.Tests.{ltb-true, ltb-false}
use Rattle.lists.specs.Count.{one_if, sum_below, count_below}
use Rattle.lists.proofs.Count.{sum_cong, sum_split}
use Rattle.lists.proofs.Sums.{sum_zero}
use Rattle.trellis.specs.Paths.{reached}
use Rattle.forwarding.specs.declared.Hop.{Hop}
use Rattle.forwarding.specs.Forwarding.{MayTurn, may_turn}
use Rattle.forwarding.proofs.Transitions.{may_turn_lem, turn_may}
use Rattle.search.specs.Inner.{cell_reach, low_turn, near_span, Nearest}

-- ---- the best of a run of cells
module _ (row : List ℕ) (first : ℕ) where
  pub near_none : (node : ℕ) → Nearest row first 0 32768 node 0
  near_none node = record {
    most = omega arith;
    least = λ e l. absurd (omega arith);
    smallest = λ r e l. absurd (omega arith);
    own = λ r. absurd (omega arith);
    counted = refl;
  }

  module _ (n key node many cell key' node' many' : ℕ) (N : Nearest row first n key node many) (is : cell ≡ get_or row (first + n) 0)
      (keyed : key' ≡ cond (ltb cell key) cell key) (noded : node' ≡ cond (ltb cell key) (first + n) node) (more : many' ≡ many + one_if (reached (cell_reach cell))) where
    -- the last cell, or one before
    at_last : (A : ℕ → Type 0) → A n → ((e : ℕ) → e < n → A e) → (e : ℕ) → e < n + 1 → A e
    at_last A last below e l = ⊎_elim (λ q. rw q last) (λ q. below e q) (eq-or-lt_of_le (omega arith))

    counts_on : many' ≡ count_below (n + 1) (λ e. reached (cell_reach (get_or row (first + e) 0)))
    counts_on = more ∙ rw (add-one n) (ap₂ ◌+◌ N.counted (ap (λ (x : ℕ). one_if (reached (cell_reach x))) is))

    pub near_more : Nearest row first (n + 1) key' node' many'
    near_more = go (ltb cell key) refl
      where
        go : (t : Bool) → ltb cell key ≡ t → Nearest row first (n + 1) key' node' many'
        go true t =
            let k : key' ≡ cell = keyed ∙ ap (λ (b : Bool). cond b cell key) t in
            let m : node' ≡ first + n = noded ∙ ap (λ (b : Bool). cond b (first + n) node) t in
            let l : cell < key = ltb-true cell key t in
            record {
              most = omega (arith, N.most);
              least = at_last (λ e. key' ≤ get_or row (first + e) 0) (omega arith) (λ e q. omega (arith, N.least e q));
              smallest = λ r e q u. omega (arith, N.least e (omega arith));
              own = λ r. (n, omega arith, m, k ∙ is);
              counted = counts_on;
            }
        go false t =
            let k : key' ≡ key = keyed ∙ ap (λ (b : Bool). cond b cell key) t in
            let m : node' ≡ node = noded ∙ ap (λ (b : Bool). cond b (first + n) node) t in
            let l : key ≤ cell = ltb-false cell key t in
            record {
              most = omega (arith, N.most);
              least = at_last (λ e. key' ≤ get_or row (first + e) 0) (omega arith) (λ e q. omega (arith, N.least e q));
              smallest = λ r. at_last (λ e. first + e < node' → key' < get_or row (first + e) 0)
                  (λ u. let o = N.own (omega arith) in absurd (omega (arith, o.1, o.2)))
                  (λ e q u. omega (arith, N.smallest (omega arith) e q (omega arith)));
              own = λ r. let o = N.own (omega arith) in (o.0, omega (arith, o.1), m ∙ o.2, k ∙ o.3);
              counted = counts_on;
            }

-- ---- which colours these are
module _ (g h : Hop) (c : ℕ) where
  -- exactly those from which c may be reached
  pub near_of : (e : ℕ) → e < near_span g h c → (low_turn h c + e < g.colours) × MayTurn h (low_turn h c + e) c
  near_of e l =
      (omega arith, (omega arith, omega arith))

  pub near_in : (d : ℕ) → d < g.colours → MayTurn h d c → (e : ℕ) × (e < near_span g h c) × (d ≡ low_turn h c + e)
  near_in d l m =
      let low : c ≤ d + h.turn = m.1 in
      let high : d < c + h.turn + 1 = omega (arith, m.0) in
      (d - low_turn h c, omega arith, omega arith)

  -- and so many
  pub near_fits : (n : ℕ) → n ≡ near_span g h c → g.colours ≤ 4 → c < 4 → (low_turn h c + n ≤ 4) × (0 < n → low_turn h c + n ≤ g.colours)
  near_fits n e few l = (elim (dec_lt 0 n) [ yes q ↦ omega (arith, last q) | no q ↦ omega arith ], last)
    where
      last : 0 < n → low_turn h c + n ≤ g.colours
      last q = omega (arith, (near_of (n - 1) (omega arith)).0)

  -- ---- COUNTING OVER ALL NEAR COLOURS is counting over the run
  none_of : (n : ℕ) (f : ℕ → ℕ) → ((d : ℕ) → d < n → f d ≡ 0) → sum_below n f ≡ 0
  none_of n f z = sum_cong n f (λ d. 0) z ∙ sum_zero n

  turn_off : (p : Bool) (d : ℕ) → (MayTurn h d c → ⊥) → one_if (p && may_turn h d c) ≡ 0
  turn_off p d never = go (may_turn h d c) refl p
    where
      go : (t : Bool) → may_turn h d c ≡ t → (p : Bool) → one_if (p && t) ≡ 0
      go true t p = absurd (never (may_turn_lem h d c t))
      go false t true = refl
      go false t false = refl

  turn_on : (p : Bool) (d : ℕ) → MayTurn h d c → one_if (p && may_turn h d c) ≡ one_if p
  turn_on true d m = ap one_if (turn_may h d c m)
  turn_on false d m = refl

  pub near_count : (p : ℕ → Bool) → count_below g.colours (λ d. p d && may_turn h d c) ≡ count_below (near_span g h c) (λ e. p (low_turn h c + e))
  near_count p = elim (dec_lt 0 span) [ yes q ↦ some q | no q ↦ nothing (omega arith) ]
    where
      span : ℕ
      span = near_span g h c

      low : ℕ
      low = low_turn h c

      f : ℕ → ℕ
      f d = one_if (p d && may_turn h d c)

      outside : (d : ℕ) → d < g.colours → ((e : ℕ) → e < near_span g h c → d ≡ low_turn h c + e → ⊥) → f d ≡ 0
      outside d l never = turn_off (p d) d (λ m. let w = near_in d l m in never w.0 w.1 w.2)

      nothing : span ≡ 0 → sum_below g.colours f ≡ count_below (near_span g h c) (λ e. p (low_turn h c + e))
      nothing z = none_of g.colours f (λ d l. outside d l (λ e q u. omega arith)) ∙ ap (λ (n : ℕ). count_below n (λ e. p (low_turn h c + e))) (sym z)

      some : 0 < span → sum_below g.colours f ≡ count_below (near_span g h c) (λ e. p (low_turn h c + e))
      some q =
          let last : low + (span - 1) < g.colours = (near_of (span - 1) (omega arith)).0 in
          let whole : g.colours ≡ low + span + (g.colours - (low + span)) = omega arith in
          ap (λ (n : ℕ). sum_below n f) whole
          ∙ sum_split (low + span) (g.colours - (low + span)) f
          ∙ ap₂ ◌+◌
          (sum_split low span f
          ∙ ap₂ ◌+◌ (none_of low f (λ d l. outside d (omega arith) (λ e u v. omega arith)))
          (sum_cong span (λ e. f (low + e)) (λ e. one_if (p (low + e))) (λ e l. turn_on (p (low + e)) (low + e) (near_of e l).1)))
          (none_of (g.colours - (low + span)) (λ j. f (low + span + j)) (λ j l. outside (low + span + j) (omega arith) (λ e u v. omega arith)))
          ∙ omega arith

-- The survivors are least: the row and the predecessors give the least path to each node.
-- Assumes nothing.
use mathlib.Core.Path.{◌≡◌, refl, sym, ◌∙◌, ap, subst}
use mathlib.Core.Bool.{Bool, true, false}
use mathlib.Core.List.{List, [], ◌∷◌}
use mathlib.Core.Logic.{inl, inr, ⊎_elim}
use Prim.Native.Nat.{ℕ, zero, suc, ◌+◌, ◌<◌, ◌≤◌}
use native.Mathlib.Nat.{eq-or-lt_of_le, le_of_suc-le-suc, not-suc-le-zero}
use native.Mathlib.Omega.{arith}
use native.Mathlib.Decide.{dec_lt}
use lib.ListN.{get_or, length, length-append, get_or-eq_default, get_or-append}
use lib.Seq.{get_or_at}
use Rattle.lists.specs.Order.{Precedes}
use Rattle.lists.proofs.Order.{precedes_refl, precedes_trans, precedes_add, precedes_put}
use Rattle.trellis.specs.Trellis.{Reach, never, after, Stage, Trellis, entry, ◌▸◌, width, Leads, cost_to, behind, key}
use Rattle.trellis.proofs.Paths.{path_below}
use Rattle.trellis.proofs.Survivor.{tab, Offer, none, offer, Best, nobody, best, offer_if, offer_of, reach_of, node_of, into, row, back}
use Rattle.trellis.proofs.Select.{IsBest, is_best, offer_not_none}

-- a table's length and entries
pub length_tab {ℓ} : {A : Type ℓ} (n : ℕ) (f : ℕ → A) → length (tab n f) ≡ n
length_tab zero f = refl
length_tab (suc n) f = length-append (tab n f) (f n ∷ []) ∙ omega (arith, length_tab n f)

pub tab_at {ℓ} : {A : Type ℓ} (n : ℕ) (f : ℕ → A) (d : A) (i : ℕ) → i < n → get_or (tab n f) i d ≡ f i
tab_at zero f d i h = absurd (not-suc-le-zero h)
tab_at (suc n) f d i h =
    ⊎_elim (λ e. get_or_at (tab n f) (f n) [] d i (length_tab n f ∙ sym e) ∙ ap f (sym e))
    (λ l. get_or-append (tab n f) (f n ∷ []) d i (omega (arith, length_tab n f)) ∙ tab_at n f d i l)
    (eq-or-lt_of_le (le_of_suc-le-suc h))

pub tab_out {ℓ} : {A : Type ℓ} (n : ℕ) (f : ℕ → A) (d : A) (i : ℕ) → n ≤ i → get_or (tab n f) i d ≡ d
tab_out n f d i h = get_or-eq_default (tab n f) d (omega (arith, length_tab n f))

pub length_row : (t : Trellis) → length (row t) ≡ width t
length_row (entry n s) = length_tab n s
length_row (t ▸ st) = length_tab st.size (λ i. reach_of (into (row t) st i))

-- the path p to the node i costs c and comes before every other path to i
pub record LeastTo (t : Trellis) (i : ℕ) (p : List ℕ) (c : ℕ) : Type 0 where
  pub path : Leads t i p
  pub costs : cost_to t i p ≡ c
  pub first : (q : List ℕ) → Leads t i q → Precedes (key t i p) (key t i q)

-- what a row says of the node i, with p as its survivor: no path leads there, or p is least of
-- those that do
abbrev pub Survives : Trellis → ℕ → List ℕ → Reach → Type 0
Survives t i p never = (q : List ℕ) → Leads t i q → ⊥
Survives t i p (after c) = LeastTo t i p c

-- the surviving paths' keys are ordered as cost, rank and node before
extend : (g : ℕ → List ℕ) (i c r k c' r' k' : ℕ) → Precedes (c ∷ r ∷ k ∷ []) (c' ∷ r' ∷ k' ∷ [])
    → Precedes (c ∷ i ∷ r ∷ k ∷ g k) (c' ∷ i ∷ r' ∷ k' ∷ g k')
extend g i c r k c' r' k' (inl a) = inl a
extend g i c r k c' r' k' (inr (e, inl a)) = inr (e, inr (refl, inl a))
extend g i c r k c' r' k' (inr (e, inr (e₂, inl a))) = inr (e, inr (refl, inr (e₂, inl a)))
extend g i c r k c' r' k' (inr (e, inr (e₂, inr (e₃, u)))) =
    inr (e, inr (refl, inr (e₂, inr (e₃, subst (λ (x : ℕ). Precedes (g k) (g x)) e₃ (precedes_refl (g k))))))

module _ (t : Trellis) (st : Stage) (i : ℕ) where
  -- a path to k, and a step on to i, make an offer
  offers : (k : ℕ) (p : List ℕ) (x : Reach) → Survives t k (back t k) x → Leads t k p → st.allowed k i ≡ true
      → offer_of st i x k ≡ offer (cost_to t k (back t k) + st.cost k i) (st.rank k i)
  offers k p never s h a = absurd (s p h)
  offers k p (after c) s h a = rw (a, s.costs)

  pub record Offered (k c r : ℕ) : Type 0 where
    pub step : st.allowed k i ≡ true
    pub path : Leads t k (back t k)
    pub cost_is : cost_to t k (back t k) + st.cost k i ≡ c
    pub rank_is : st.rank k i ≡ r
    pub first : (q : List ℕ) → Leads t k q → Precedes (key t k (back t k)) (key t k q)

  -- an offer comes from a survivor and an allowed step
  offered : (k c r : ℕ) (x : Reach) → Survives t k (back t k) x → offer_of st i x k ≡ offer c r → Offered k c r
  offered k c r never s e = offer_not_none none c r refl e
  offered k c r (after d) s e = go (st.allowed k i) refl e
    where
      go : (b : Bool) → st.allowed k i ≡ b → offer_if b (d + st.cost k i) (st.rank k i) ≡ offer c r → Offered k c r
      go false p q = offer_not_none none c r refl q
      go true p q = record { step = p; path = s.path; cost_is = cc; rank_is = cc; first = s.first }

  module _ (inside : i < st.size) (ih : (k : ℕ) → Survives t k (back t k) (get_or (row t) k never)) where
    abbrev made : ℕ → Offer
    made k = offer_of st i (get_or (row t) k never) k

    none_leads : IsBest made (length (row t)) nobody → (q : List ℕ) → Leads (t ▸ st) i q → ⊥
    none_leads h [] l = l
    none_leads h (k ∷ p) l =
        offer_not_none (made k) (cost_to t k (back t k) + st.cost k i) (st.rank k i)
        (h k (omega (arith, path_below t k p l.2, length_row t)))
        (offers k p (get_or (row t) k never) (ih k) l.2 l.1)

    -- a survivor, then an allowed step, comes before any other path with that step
    after_step : (k : ℕ) (p : List ℕ) (x : Reach) → Survives t k (back t k) x → Leads t k p → Precedes (key t k (back t k)) (key t k p)
    after_step k p never s h = absurd (s p h)
    after_step k p (after c) s h = s.first p h

    best_first : (c r k : ℕ) → IsBest made (length (row t)) (best c r k) → Offered k c r
        → (q : List ℕ) → Leads (t ▸ st) i q → Precedes (key (t ▸ st) i (k ∷ back t k)) (key (t ▸ st) i q)
    best_first c r k h o [] l = absurd l
    best_first c r k h o (k' ∷ p) l =
        let c' : ℕ = cost_to t k' (back t k') + st.cost k' i in
        let lower : Precedes (c ∷ r ∷ k ∷ []) (c' ∷ st.rank k' i ∷ k' ∷ []) =
        h.2 k' c' (st.rank k' i) (omega (arith, path_below t k' p l.2, length_row t)) (offers k' p (get_or (row t) k' never) (ih k') l.2 l.1) in
        precedes_trans (key (t ▸ st) i (k ∷ back t k)) (key (t ▸ st) i (k' ∷ back t k')) (key (t ▸ st) i (k' ∷ p))
        (rw (o.cost_is, o.rank_is) (extend (λ n. behind t n (back t n)) i c r k c' (st.rank k' i) k' lower))
        (precedes_put i c' (cost_to t k' p + st.cost k' i) (st.rank k' i ∷ k' ∷ behind t k' (back t k')) (st.rank k' i ∷ k' ∷ behind t k' p)
        (precedes_put (st.rank k' i) c' (cost_to t k' p + st.cost k' i) (k' ∷ behind t k' (back t k')) (k' ∷ behind t k' p)
        (precedes_add (st.cost k' i) (cost_to t k' (back t k')) (cost_to t k' p) (k' ∷ behind t k' (back t k')) (k' ∷ behind t k' p)
        (after_step k' p (get_or (row t) k' never) (ih k') l.2))))

    step : (b : Best) → IsBest made (length (row t)) b → Survives (t ▸ st) i (node_of b ∷ back t (node_of b)) (reach_of b)
    step nobody h = none_leads h
    step (best c r k) h =
        let o : Offered k c r = offered k c r (get_or (row t) k never) (ih k) h.1 in
        record { path = (inside, o.step, o.path); costs = o.cost_is; first = best_first c r k h o }

-- a start value, and the one-node path from it
begins : (n : ℕ) (s : ℕ → Reach) (i : ℕ) → i < n → (x : Reach) → s i ≡ x → Survives (entry n s) i [] x
begins n s i inside never e = none_begins
  where
    none_begins : (q : List ℕ) → Leads (entry n s) i q → ⊥
    none_begins [] l = let z : ◌≡◌ {A = ℕ} 0 1 = cc l.1.1 in omega arith
    none_begins (k ∷ q) l = l
begins n s i inside (after c) e = record { path = (inside, (c, e)); costs = rw e; first = own }
  where
    own : (q : List ℕ) → Leads (entry n s) i q → Precedes (key (entry n s) i []) (key (entry n s) i q)
    own [] l = precedes_refl (key (entry n s) i [])
    own (k ∷ q) l = absurd l

outside : (t : Trellis) (i : ℕ) (p : List ℕ) → width t ≤ i → Survives t i p never
outside t i p h q l = omega (arith, path_below t i q l)

-- the row and the predecessors give the least path to each node, or none where there is none
pub survives : (t : Trellis) (i : ℕ) → Survives t i (back t i) (get_or (row t) i never)
survives (entry n s) i =
    elim (dec_lt i n) [
      | yes h ↦ rw (tab_at n s never i h) (begins n s i h (s i) refl)
      | no h ↦ rw (tab_out n s never i (omega arith)) (outside (entry n s) i [] (omega arith))
    ]
survives (t ▸ st) i =
    elim (dec_lt i st.size) [
      | yes h ↦ rw (tab_at st.size (λ j. reach_of (into (row t) st j)) never i h) (step t st i h (λ k. survives t k) (into (row t) st i) (is_best (λ k. offer_of st i (get_or (row t) k never) k) (length (row t))))
      | no h ↦ rw (tab_out st.size (λ j. reach_of (into (row t) st j)) never i (omega arith)) (outside (t ▸ st) i (back (t ▸ st) i) (omega arith))
    ]

-- The best offer of a run of nodes is least by cost, rank and node, and there is no other.
-- Assumes nothing.
use mathlib.Core.Path.{◌≡◌, refl, sym, ◌∙◌, ap}
use mathlib.Core.Bool.{Bool, true, false, ◌&&◌, cond}
use mathlib.Core.List.{List, [], ◌∷◌}
use mathlib.Core.Logic.{◌⊎◌, inl, inr}
use Prim.Native.Nat.{ℕ, zero, suc, ◌<◌, ◌≤◌}
use native.Mathlib.Nat.{eq-or-lt_of_le, le_of_suc-le-suc, not-suc-le-zero}
use native.Mathlib.Omega.{arith}
use lib.Dec.{ltb, eqb}
use borrow.Author.Tests.{ltb-true, ltb-false, eqb-true, eqb-false}
use Rattle.lists.specs.Order.{Precedes}
use Rattle.lists.proofs.Order.{precedes_trans, precedes_antisym}
use Rattle.trellis.proofs.Survivor.{Offer, none, offer, Best, nobody, best, better, best_of}

-- b is the best of the offers of the nodes below n
abbrev pub IsBest : (ℕ → Offer) → ℕ → Best → Type 0
IsBest f n nobody = (k : ℕ) → k < n → f k ≡ none
IsBest f n (best c r k) =
    (k < n) × (f k ≡ offer c r) × ((j c' r' : ℕ) → j < n → f j ≡ offer c' r' → Precedes (c ∷ r ∷ k ∷ []) (c' ∷ r' ∷ j ∷ []))

-- an equation between offers tells the numbers apart
pub offer_not_none : {A : Type 0} (o : Offer) (c r : ℕ) → o ≡ none → o ≡ offer c r → A
offer_not_none o c r p q = absurd (let z : ◌≡◌ {A = ℕ} 0 1 = cc in omega arith)

offer_cost : (o : Offer) (c r c' r' : ℕ) → o ≡ offer c r → o ≡ offer c' r' → c ≡ c'
offer_cost o c r c' r' p q = cc

offer_rank : (o : Offer) (c r c' r' : ℕ) → o ≡ offer c r → o ≡ offer c' r' → r ≡ r'
offer_rank o c r c' r' p q = cc

same_triple : (c r k c' r' k' : ℕ) → c ≡ c' → r ≡ r' → k ≡ k' → Precedes (c ∷ r ∷ k ∷ []) (c' ∷ r' ∷ k' ∷ [])
same_triple c r k c' r' k' p q e = inr (p, inr (q, inr (e, tt)))

module _ (f : ℕ → Offer) (n : ℕ) where
  -- a node below n + 1 is below n or n
  below_suc : {A : Type 0} (j : ℕ) → j < suc n → (j < n → A) → (j ≡ n → A) → A
  below_suc {A} j h below last = go (eq-or-lt_of_le (le_of_suc-le-suc h))
    where
      go : (j ≡ n) ⊎ (j < n) → A
      go (inl e) = last e
      go (inr l) = below l

  skip : (b : Best) → f n ≡ none → IsBest f n b → IsBest f (suc n) b
  skip nobody e h = λ j l. below_suc j l (h j) (λ q. ap f q ∙ e)
  skip (best c r k) e h =
      (omega (arith, h.0), h.1, λ j c' r' l g. below_suc j l (λ b. h.2 j c' r' b g) (λ q. offer_not_none (f j) c' r' (ap f q ∙ e) g))

  first : (c r : ℕ) → f n ≡ offer c r → IsBest f n nobody → IsBest f (suc n) (best c r n)
  first c r e h = (
    omega arith,
    e,
    λ j c' r' l g. below_suc j l (λ b. offer_not_none (f j) c' r' (h j b) g)
        (λ q. same_triple c r n c' r' j (offer_cost (f j) c r c' r' (ap f q ∙ e) g) (offer_rank (f j) c r c' r' (ap f q ∙ e) g) (sym q)),
  )

  -- the new offer comes before the old best one
  take_new : (c₀ r₀ k₀ c r : ℕ) → f n ≡ offer c r → IsBest f n (best c₀ r₀ k₀) → Precedes (c ∷ r ∷ n ∷ []) (c₀ ∷ r₀ ∷ k₀ ∷ [])
      → IsBest f (suc n) (best c r n)
  take_new c₀ r₀ k₀ c r e h p = (
    omega arith,
    e,
    λ j c' r' l g. below_suc j l
        (λ b. precedes_trans (c ∷ r ∷ n ∷ []) (c₀ ∷ r₀ ∷ k₀ ∷ []) (c' ∷ r' ∷ j ∷ []) p (h.2 j c' r' b g))
        (λ q. same_triple c r n c' r' j (offer_cost (f j) c r c' r' (ap f q ∙ e) g) (offer_rank (f j) c r c' r' (ap f q ∙ e) g) (sym q)),
  )

  -- the old best offer comes before the new one
  keep_old : (c₀ r₀ k₀ c r : ℕ) → f n ≡ offer c r → IsBest f n (best c₀ r₀ k₀) → Precedes (c₀ ∷ r₀ ∷ k₀ ∷ []) (c ∷ r ∷ n ∷ [])
      → IsBest f (suc n) (best c₀ r₀ k₀)
  keep_old c₀ r₀ k₀ c r e h p = (
    omega (arith, h.0),
    h.1,
    λ j c' r' l g. below_suc j l (λ b. h.2 j c' r' b g)
        (λ q. precedes_trans (c₀ ∷ r₀ ∷ k₀ ∷ []) (c ∷ r ∷ n ∷ []) (c' ∷ r' ∷ j ∷ []) p
        (same_triple c r n c' r' j (offer_cost (f j) c r c' r' (ap f q ∙ e) g) (offer_rank (f j) c r c' r' (ap f q ∙ e) g) (sym q))),
  )

  -- the tests decide as the order does
  decide : (c₀ r₀ k₀ c r : ℕ) → f n ≡ offer c r → IsBest f n (best c₀ r₀ k₀)
      → IsBest f (suc n) (cond (ltb c c₀) (best c r n) (cond (eqb c c₀ && ltb r r₀) (best c r n) (best c₀ r₀ k₀)))
  decide c₀ r₀ k₀ c r e h = go (ltb c c₀) refl (eqb c c₀) refl (ltb r r₀) refl
    where
      older : c₀ ≤ c → r₀ ≤ r → Precedes (c₀ ∷ r₀ ∷ k₀ ∷ []) (c ∷ r ∷ n ∷ [])
      older a b = step (eq-or-lt_of_le a) (eq-or-lt_of_le b)
        where
          step : (c₀ ≡ c) ⊎ (c₀ < c) → (r₀ ≡ r) ⊎ (r₀ < r) → Precedes (c₀ ∷ r₀ ∷ k₀ ∷ []) (c ∷ r ∷ n ∷ [])
          step (inr x) y = inl x
          step (inl x) (inr y) = inr (x, inl y)
          step (inl x) (inl y) = inr (x, inr (y, inl h.0))

      go : (t : Bool) → ltb c c₀ ≡ t → (u : Bool) → eqb c c₀ ≡ u → (v : Bool) → ltb r r₀ ≡ v
          → IsBest f (suc n) (cond t (best c r n) (cond (u && v) (best c r n) (best c₀ r₀ k₀)))
      go true p u q v s = take_new c₀ r₀ k₀ c r e h (inl (ltb-true c c₀ p))
      go false p true q true s = take_new c₀ r₀ k₀ c r e h (inr (eqb-true c c₀ q, inl (ltb-true r r₀ s)))
      go false p true q false s = keep_old c₀ r₀ k₀ c r e h (older (ltb-false c c₀ p) (ltb-false r r₀ s))
      go false p false q v s = keep_old c₀ r₀ k₀ c r e h (inl (lt_of (eq-or-lt_of_le (ltb-false c c₀ p))))
        where
          lt_of : (c₀ ≡ c) ⊎ (c₀ < c) → c₀ < c
          lt_of (inl x) = absurd (eqb-false c c₀ q (sym x))
          lt_of (inr x) = x

  next : (b : Best) (o : Offer) → f n ≡ o → IsBest f n b → IsBest f (suc n) (better b o n)
  next b none e h = skip b e h
  next nobody (offer c r) e h = first c r e h
  next (best c₀ r₀ k₀) (offer c r) e h = decide c₀ r₀ k₀ c r e h

pub is_best : (f : ℕ → Offer) (n : ℕ) → IsBest f n (best_of f n)
is_best f zero = λ k h. absurd (not-suc-le-zero h)
is_best f (suc n) = next f n (best_of f n) (f n) refl (is_best f n)

-- and there is only one best: whatever the order in which offers are looked at, what is best of all
-- is `best_of`
pub best_only : (f : ℕ → Offer) (n : ℕ) (a b : Best) → IsBest f n a → IsBest f n b → a ≡ b
best_only f n nobody nobody h l = refl
best_only f n nobody (best c r k) h l = offer_not_none (f k) c r (h k l.0) l.1
best_only f n (best c r k) nobody h l = offer_not_none (f k) c r (l k h.0) h.1
best_only f n (best c r k) (best c' r' k') h l =
    let e : ◌≡◌ {A = List ℕ} (c ∷ r ∷ k ∷ []) (c' ∷ r' ∷ k' ∷ []) =
    precedes_antisym (c ∷ r ∷ k ∷ []) (c' ∷ r' ∷ k' ∷ []) (h.2 k' c' r' l.0 l.1) (l.2 k c r h.0 h.1) in
    let x : c ≡ c' = cc in
    let y : r ≡ r' = cc in
    let z : k ≡ k' = cc in
    cc

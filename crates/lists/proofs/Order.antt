-- The order of keys is one: reflexive, transitive, antisymmetric, total, and the test says the
-- same. Assumes nothing.
use mathlib.Core.Path.{◌≡◌, refl, sym, ap₂}
use mathlib.Core.Bool.{Bool, true, false, ◌&&◌, ◌||◌}
use mathlib.Core.List.{List, [], ◌∷◌}
use mathlib.Core.Logic.{◌⊎◌, inl, inr, ⊎_elim}
use Prim.Native.Nat.{ℕ, ◌+◌, ◌≤◌}
use native.Mathlib.Omega.{arith}
use lib.Dec.{ltb, eqb}
use lib.Arith.{lt_of_le-ne}
use borrow.Author.Tests.{ltb-true, ltb-false, eqb-true, eqb-false}
use Rattle.lists.specs.Order.{Precedes, precedes}
use Rattle.lists.proofs.Count.{and_both, or_neither}

pub precedes_refl : (xs : List ℕ) → Precedes xs xs
precedes_refl [] = tt
precedes_refl (x ∷ xs) = inr (refl, precedes_refl xs)

pub precedes_trans : (xs ys zs : List ℕ) → Precedes xs ys → Precedes ys zs → Precedes xs zs
precedes_trans [] ys zs p q = tt
precedes_trans (x ∷ xs) [] zs p q = absurd p
precedes_trans (x ∷ xs) (y ∷ ys) [] p q = absurd q
precedes_trans (x ∷ xs) (y ∷ ys) (z ∷ zs) (inl a) (inl b) = inl (omega arith)
precedes_trans (x ∷ xs) (y ∷ ys) (z ∷ zs) (inl a) (inr b) = inl (omega arith)
precedes_trans (x ∷ xs) (y ∷ ys) (z ∷ zs) (inr a) (inl b) = inl (omega arith)
precedes_trans (x ∷ xs) (y ∷ ys) (z ∷ zs) (inr a) (inr b) = inr (omega arith, precedes_trans xs ys zs a.1 b.1)

pub precedes_antisym : (xs ys : List ℕ) → Precedes xs ys → Precedes ys xs → xs ≡ ys
precedes_antisym [] [] p q = refl
precedes_antisym [] (y ∷ ys) p q = absurd q
precedes_antisym (x ∷ xs) [] p q = absurd p
precedes_antisym (x ∷ xs) (y ∷ ys) (inl a) (inl b) = absurd (omega arith)
precedes_antisym (x ∷ xs) (y ∷ ys) (inl a) (inr b) = absurd (omega arith)
precedes_antisym (x ∷ xs) (y ∷ ys) (inr a) (inl b) = absurd (omega arith)
precedes_antisym (x ∷ xs) (y ∷ ys) (inr a) (inr b) = ap₂ ◌∷◌ a.0 (precedes_antisym xs ys a.1 b.1)

-- the first numbers are in order
pub precedes_head : (x y : ℕ) (xs ys : List ℕ) → Precedes (x ∷ xs) (y ∷ ys) → x ≤ y
precedes_head x y xs ys (inl a) = omega arith
precedes_head x y xs ys (inr a) = omega arith

-- the same number added to both first numbers, and the same numbers put in behind both, leave the
-- order
pub precedes_add : (c x y : ℕ) (xs ys : List ℕ) → Precedes (x ∷ xs) (y ∷ ys) → Precedes ((x + c) ∷ xs) ((y + c) ∷ ys)
precedes_add c x y xs ys (inl a) = inl (omega arith)
precedes_add c x y xs ys (inr a) = inr (omega arith, a.1)

pub precedes_put : (a x y : ℕ) (xs ys : List ℕ) → Precedes (x ∷ xs) (y ∷ ys) → Precedes (x ∷ a ∷ xs) (y ∷ a ∷ ys)
precedes_put a x y xs ys (inl l) = inl l
precedes_put a x y xs ys (inr e) = inr (e.0, inr (refl, e.1))

-- the test
or_cases : (a b : Bool) → a || b ≡ true → (a ≡ true) ⊎ (b ≡ true)
or_cases true b e = inl refl
or_cases false b e = inr e

pub test_precedes : (xs ys : List ℕ) → precedes xs ys ≡ true → Precedes xs ys
test_precedes [] ys e = tt
test_precedes (x ∷ xs) [] e = absurd (let z : ◌≡◌ {A = ℕ} 0 1 = cc in omega arith)
test_precedes (x ∷ xs) (y ∷ ys) e =
    ⊎_elim (λ a. inl (ltb-true x y a))
    (λ b. let u = and_both (eqb x y) (precedes xs ys) b in inr (eqb-true x y u.0, test_precedes xs ys u.1))
    (or_cases (ltb x y) (eqb x y && precedes xs ys) e)

pub test_follows : (xs ys : List ℕ) → precedes xs ys ≡ false → Precedes ys xs
test_follows [] ys e = absurd (let z : ◌≡◌ {A = ℕ} 0 1 = cc in omega arith)
test_follows (x ∷ xs) [] e = tt
test_follows (x ∷ xs) (y ∷ ys) e =
    let u = or_neither (ltb x y) (eqb x y && precedes xs ys) e in
    go (eqb x y) refl (ltb-false x y u.0) u.1 (λ q. test_follows xs ys q)
  where
    go : (b : Bool) → eqb x y ≡ b → y ≤ x → b && precedes xs ys ≡ false → (precedes xs ys ≡ false → Precedes ys xs) → Precedes (y ∷ ys) (x ∷ xs)
    go true q h f ih = inr (sym (eqb-true x y q), ih f)
    go false q h f ih = inl (lt_of_le-ne h (λ p. eqb-false x y q (sym p)))

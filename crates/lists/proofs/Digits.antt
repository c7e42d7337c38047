-- Numbers of two digits, first × C + second, are ordered as their digits, the first first.
-- Assumes nothing.
use mathlib.Core.Path.{◌≡◌, ◌∙◌, ap}
use mathlib.Core.List.{List, ◌∷◌}
use mathlib.Core.Logic.{◌↔◌, inl, inr}
use Prim.Native.Nat.{ℕ, zero, suc, ◌+◌, ◌*◌, ◌/◌, ◌%◌, ◌<◌}
use native.Mathlib.Nat.{mul-zero, suc-mul, mul-le-mul_right, mul-add-div_right, mul-add-mod_self_right, div-eq_of_lt, mod-eq_of_lt, mod-lt, div-add-mod', div-lt_iff_lt-mul}
use native.Mathlib.Omega.{arith}
use native.Mathlib.Decide.{dec_lt}
use Rattle.lists.specs.Order.{Precedes}

-- the digits of first × C + second, and the number of the digits
pub digit_first : (C x y : ℕ) → y < C → (x * C + y) / C ≡ x
digit_first C x y h = mul-add-div_right (omega arith) x y ∙ omega (arith, div-eq_of_lt h)

pub digit_second : (C x y : ℕ) → y < C → (x * C + y) % C ≡ y
digit_second C x y h = mul-add-mod_self_right x C y ∙ mod-eq_of_lt h

pub digits_back : (C n : ℕ) → n / C * C + n % C ≡ n
digits_back C n = div-add-mod' n C

-- below K × C exactly where the first is below K
pub digits_below : (K C x y : ℕ) → x < K → y < C → x * C + y < K * C
digits_below K C x y h l = omega (arith, suc-mul x C, mul-le-mul_right {m = suc x} {n = K} C h)

some_second : (K C n : ℕ) → n < K * C → 0 < C
some_second K zero n h = absurd (omega (arith, mul-zero K))
some_second K (suc C) n h = omega arith

pub below_first : (K C n : ℕ) → n < K * C → n / C < K
below_first K C n h = (div-lt_iff_lt-mul {k = C} {y = K} (some_second K C n h)).1 h

pub below_second : (K C n : ℕ) → n < K * C → n % C < C
below_second K C n h = mod-lt n (some_second K C n h)

module _ (C : ℕ) where
  digit_before : (x y x' y' : ℕ) → y < C → x < x' → x * C + y < x' * C + y'
  digit_before x y x' y' h l = omega (arith, suc-mul x C, mul-le-mul_right {m = suc x} {n = x'} C l)

  digits_join : (x y x' y' : ℕ) (ks ks' : List ℕ) → y < C → Precedes (x ∷ y ∷ ks) (x' ∷ y' ∷ ks') → Precedes ((x * C + y) ∷ ks) ((x' * C + y') ∷ ks')
  digits_join x y x' y' ks ks' h (inl l) = inl (digit_before x y x' y' h l)
  digits_join x y x' y' ks ks' h (inr (e, inl l)) = inl (omega (arith, ap (λ (z : ℕ). z * C) e))
  digits_join x y x' y' ks ks' h (inr (e, inr (d, r))) = inr (omega (arith, ap (λ (z : ℕ). z * C) e), r)

  same_first : (x y x' y' : ℕ) (ks ks' : List ℕ) → x ≡ x' → Precedes ((x * C + y) ∷ ks) ((x' * C + y') ∷ ks') → Precedes (x ∷ y ∷ ks) (x' ∷ y' ∷ ks')
  same_first x y x' y' ks ks' e (inl l) = inr (e, inl (omega (arith, ap (λ (z : ℕ). z * C) e)))
  same_first x y x' y' ks ks' e (inr (d, r)) = inr (e, inr (omega (arith, ap (λ (z : ℕ). z * C) e), r))

  not_above : (x y x' y' : ℕ) (ks ks' : List ℕ) → y' < C → x' < x → Precedes ((x * C + y) ∷ ks) ((x' * C + y') ∷ ks') → ⊥
  not_above x y x' y' ks ks' h l (inl m) = omega (arith, digit_before x' y' x y h l)
  not_above x y x' y' ks ks' h l (inr (e, r)) = omega (arith, digit_before x' y' x y h l)

  digits_split : (x y x' y' : ℕ) (ks ks' : List ℕ) → y' < C → Precedes ((x * C + y) ∷ ks) ((x' * C + y') ∷ ks') → Precedes (x ∷ y ∷ ks) (x' ∷ y' ∷ ks')
  digits_split x y x' y' ks ks' h r =
      elim (dec_lt x x') [
        | yes l ↦ inl l
        | no m ↦ elim (dec_lt x' x) [
          | yes l ↦ absurd (not_above x y x' y' ks ks' h l r)
          | no l ↦ same_first x y x' y' ks ks' (omega arith) r
        ]
      ]

-- a tail decides only behind equal numbers
pub precedes_behind : (x y : ℕ) (ks ks' ls ls' : List ℕ) → (Precedes ks ks' → Precedes ls ls') → Precedes (x ∷ ks) (y ∷ ks') → Precedes (x ∷ ls) (y ∷ ls')
precedes_behind x y ks ks' ls ls' f (inl a) = inl a
precedes_behind x y ks ks' ls ls' f (inr (e, r)) = inr (e, f r)

pub precedes_same : (x y : ℕ) (ks ks' ls ls' : List ℕ) → Precedes ks ks' ↔ Precedes ls ls' → Precedes (x ∷ ks) (y ∷ ks') ↔ Precedes (x ∷ ls) (y ∷ ls')
precedes_same x y ks ks' ls ls' f = (precedes_behind x y ks ks' ls ls' f.0, precedes_behind x y ls ls' ks ks' f.1)

-- A NUMBER OF TWO DIGITS decides as its digits do, and the tail after it
pub digits_behind : (C x y x' y' : ℕ) (ks ks' ls ls' : List ℕ) → y < C → y' < C → Precedes ks ks' ↔ Precedes ls ls'
    → Precedes ((x * C + y) ∷ ks) ((x' * C + y') ∷ ks') ↔ Precedes (x ∷ y ∷ ls) (x' ∷ y' ∷ ls')
digits_behind C x y x' y' ks ks' ls ls' h h' f = (
  λ r. digits_split C x y x' y' ls ls' h' (precedes_behind (x * C + y) (x' * C + y') ks ks' ls ls' f.0 r),
  λ r. precedes_behind (x * C + y) (x' * C + y') ls ls' ks ks' f.1 (digits_join C x y x' y' ls ls' h r),
)

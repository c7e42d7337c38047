-- The bits of a number. Assumes nothing.
use mathlib.Core.Path.{◌≡◌, refl, sym, ap, ap₂, ◌∙◌}
use mathlib.Core.Bool.{Bool, true, false, ◌&&◌, ◌||◌}
use mathlib.Core.Logic.{⊎_elim}
use Prim.Native.Nat.{ℕ, zero, suc, ◌+◌, ◌-◌, ◌/◌, ◌%◌, ◌^◌, ◌<◌, ◌≤◌}
use native.Mathlib.Nat.{mod-lt, mod_self, div_self, div-eq_of_lt, zero-div, lt_of_lt_of_le, eq-or-lt_of_le}
use native.Mathlib.Decide.{dec_lt}
use native.Mathlib.Omega.{arith}
use lib.Dec.{eqb, lit<}
use lib.Pow.{pow_pos, pow_mono, pow-lt, field, mod-mod-pow}
use lib.Bits.{bit_and, bit_or, and_shr, or_shr, and_mod, or_mod}
use borrow.Author.Tests.{eq-eqb, ne_eqb}
use Rattle.lists.specs.Count.{one_if}
use Rattle.words.specs.Word.{bit_of}

-- a binary digit and the test that it is 1 say the same
pub one_test : (b : Bool) → eqb (one_if b) 1 ≡ b
one_test true = refl
one_test false = refl

pub test_one : (x : ℕ) → x < 2 → one_if (eqb x 1) ≡ x
test_one zero h = refl
test_one (suc zero) h = refl
test_one (suc (suc x)) h = absurd (omega arith)

-- a bit as a binary digit
pub bit_digit : (w i : ℕ) → one_if (bit_of w i) ≡ w / 2 ^ i % 2
unfolding bit_of
bit_digit w i = test_one (w / 2 ^ i % 2) (mod-lt (w / 2 ^ i) (lit< tt))

-- the number 0 has no bit
pub bit_zero : (i : ℕ) → bit_of 0 i ≡ false
unfolding bit_of
bit_zero i = rw (zero-div (2 ^ i))

-- a number below 2 ^ K has no bit at K or above
pub bit_high : (K w i : ℕ) → w < 2 ^ K → K ≤ i → bit_of w i ≡ false
unfolding bit_of
bit_high K w i h l = let e : w / 2 ^ i ≡ 0 = div-eq_of_lt (lt_of_lt_of_le h (pow_mono l)) in rw e

-- the bits below n are those of the remainder by 2 ^ n
pub bit_mod : (n w i : ℕ) → i < n → bit_of (w % 2 ^ n) i ≡ bit_of w i
unfolding bit_of
bit_mod n w i h =
    let d : ℕ = n - suc i in
    let e : n ≡ d + 1 + i = omega arith in
    let low : w % 2 ^ n / 2 ^ i ≡ w / 2 ^ i % 2 ^ (d + 1) = ap (λ (k : ℕ). w % 2 ^ k / 2 ^ i) e ∙ field w (d + 1) i in
    ap (λ (x : ℕ). eqb (x % 2) 1) low ∙ ap (λ (x : ℕ). eqb x 1) (mod-mod-pow (w / 2 ^ i) d 1)

-- 2 ^ i has bit i alone
pub bit_pow : (i j : ℕ) → bit_of (2 ^ i) j ≡ eqb j i
unfolding bit_of
bit_pow i j = go (dec_lt j i)
  where
    go : Dec (j < i) → bit_of (2 ^ i) j ≡ eqb j i
    go (yes l) = sym (bit_mod i (2 ^ i) j l) ∙ rw (mod_self (2 ^ i), bit_zero j, ne_eqb j i (λ e. omega arith))
    go (no n) =
        ⊎_elim (λ (e : i ≡ j). rw (e, eq-eqb j j refl, div_self (pow_pos j)))
        (λ (l : i < j). rw (ne_eqb j i (λ e. omega arith)) (bit_high (suc i) (2 ^ i) j (pow-lt (omega arith)) l))
        (eq-or-lt_of_le (omega arith))

-- a bit of an operation that works digit by digit, from what the operation does to one digit
bit_each :
    (op : ℕ → ℕ → ℕ) (test : Bool → Bool → Bool)
    → ((a b k : ℕ) → op a b / 2 ^ k ≡ op (a / 2 ^ k) (b / 2 ^ k))
    → ((a b k : ℕ) → op a b % 2 ^ k ≡ op (a % 2 ^ k) (b % 2 ^ k))
    → ((x y : Bool) → eqb (op (one_if x) (one_if y)) 1 ≡ test x y)
    → (a b i : ℕ) → bit_of (op a b) i ≡ test (bit_of a i) (bit_of b i)
unfolding bit_of
bit_each op test shifted masked one a b i =
    rw (shifted a b i, masked (a / 2 ^ i) (b / 2 ^ i) 1)
    (ap₂ (λ (x y : ℕ). eqb (op x y) 1) (sym (bit_digit a i)) (sym (bit_digit b i)) ∙ one (bit_of a i) (bit_of b i))

pub bit_and_lem : (a b i : ℕ) → bit_of (bit_and a b) i ≡ (bit_of a i && bit_of b i)
bit_and_lem = bit_each bit_and ◌&&◌ and_shr and_mod one
  where
    one : (x y : Bool) → eqb (bit_and (one_if x) (one_if y)) 1 ≡ (x && y)
    one true true = refl
    one true false = refl
    one false y = refl

pub bit_or_lem : (a b i : ℕ) → bit_of (bit_or a b) i ≡ (bit_of a i || bit_of b i)
bit_or_lem = bit_each bit_or ◌||◌ or_shr or_mod one
  where
    one : (x y : Bool) → eqb (bit_or (one_if x) (one_if y)) 1 ≡ (x || y)
    one true true = refl
    one true false = refl
    one false y = one_test y

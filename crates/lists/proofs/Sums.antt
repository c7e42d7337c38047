-- Laws of sums: a common factor, a bound, a part of a sum, sums that go round a cycle, and sums of
-- sums. Assumes nothing.
use mathlib.Core.Path.{◌≡◌, refl, sym, ◌∙◌, ap}
use mathlib.Core.Bool.{Bool, true, false}
use Prim.Native.Nat.{ℕ, zero, suc, ◌+◌, ◌-◌, ◌*◌, ◌%◌, ◌<◌, ◌≤◌}
use native.Mathlib.Nat.{le_trans, mul-le-mul, suc-mul, add-mul, zero-mul, one-mul, add-mod_right, mod-eq_of_lt}
use native.Mathlib.Omega.{arith}
use lib.Dec.{ltb}
use borrow.Author.Tests.{lt-ltb, le-ltb}
use Rattle.lists.specs.Count.{one_if, sum_below}
use Rattle.lists.proofs.Count.{sum_cong, sum_split, sum_const, sum_bound}

pub sum_times : (n c : ℕ) (f : ℕ → ℕ) → sum_below n (λ k. f k * c) ≡ sum_below n f * c
sum_times zero c f = sym (zero-mul c)
sum_times (suc n) c f = rw (add-mul (sum_below n f) (f n) c) (ap (λ (x : ℕ). x + f n * c) (sum_times n c f))

pub one_times_le : (b : Bool) (x : ℕ) → one_if b * x ≤ x
one_times_le true x = omega (arith, one-mul x)
one_times_le false x = omega (arith, zero-mul x)

-- over at most b numbers, each at most w
pub sum_most : (b n w : ℕ) (p : ℕ → Bool) (f : ℕ → ℕ) → n ≤ b → ((k : ℕ) → k < n → f k ≤ w) → sum_below n (λ k. one_if (p k) * f k) ≤ b * w
sum_most b n w p f h l =
    le_trans
    (sum_bound n w (λ k. one_if (p k) * f k) (λ k m. le_trans (one_times_le (p k) (f k)) (l k m)))
    (mul-le-mul {n₁ = n} {m₁ = w} {n₂ = b} {m₂ = w} h (omega arith))

-- the first members of a sum
pub sum_first : (n m : ℕ) (f : ℕ → ℕ) → n ≤ m → sum_below n f ≤ sum_below m f
sum_first n m f h =
    let e : n + (m - n) ≡ m = omega arith in
    omega (arith, sum_split n (m - n) f, ap (λ (x : ℕ). sum_below x f) e)

-- of a sum, the members below w
pub sum_narrow : (n w : ℕ) (f : ℕ → ℕ) → w ≤ n → sum_below n (λ d. one_if (ltb d w) * f d) ≡ sum_below w f
sum_narrow n w f h =
    let e : w + (n - w) ≡ n = omega arith in
    omega (
      arith,
      ap (λ (x : ℕ). sum_below x (λ d. one_if (ltb d w) * f d)) e,
      sum_split w (n - w) (λ d. one_if (ltb d w) * f d),
      sum_cong w (λ d. one_if (ltb d w) * f d) f (λ d l. rw (lt-ltb d w l) (one-mul (f d))),
      sum_cong (n - w) (λ d. one_if (ltb (w + d) w) * f (w + d)) (λ d. 0) (λ d l. rw (le-ltb (w + d) w (omega arith)) (zero-mul (f (w + d)))),
      sum_const (n - w) 0,
    )

-- ---- c places of a cycle of K, from place a on
module _ (K a c : ℕ) (f : ℕ → ℕ) where
  -- up to the end of the cycle
  pub round_within : a + c ≤ K → sum_below c (λ d. f ((a + d) % K)) + sum_below a f ≡ sum_below (a + c) f
  round_within h =
      omega (
        arith,
        sum_split a c f,
        sum_cong c (λ d. f ((a + d) % K)) (λ d. f (a + d)) (λ d l. ap f (mod-eq_of_lt (omega arith))),
      )

  -- and across it
  pub round_across : a < K → K ≤ a + c → c ≤ K → sum_below c (λ d. f ((a + d) % K)) + sum_below a f ≡ sum_below K f + sum_below (a + c - K) f
  round_across p h l =
      let b : ℕ = K - a in
      let e : ℕ = a + c - K in
      let parts : b + e ≡ c = omega arith in
      let whole : a + b ≡ K = omega arith in
      omega (
        arith,
        ap (λ (x : ℕ). sum_below x (λ d. f ((a + d) % K))) parts,
        sum_split b e (λ d. f ((a + d) % K)),
        sum_cong b (λ d. f ((a + d) % K)) (λ d. f (a + d)) (λ d m. ap f (mod-eq_of_lt (omega arith))),
        sum_cong e (λ d. f ((a + (b + d)) % K)) f (λ d m. ap f (again d (omega arith))),
        sum_split a b f,
        ap (λ (x : ℕ). sum_below x f) whole,
      )
    where
      again : (d : ℕ) → d < K → (a + (K - a + d)) % K ≡ d
      again d m = let s : a + (K - a + d) ≡ d + K = omega arith in rw s (add-mod_right d K ∙ mod-eq_of_lt m)

-- ---- sums of sums: by rows or by columns, and over the numbers of two digits
pub sum_zero : (n : ℕ) → sum_below n (λ k. 0) ≡ 0
sum_zero zero = refl
sum_zero (suc n) = omega (arith, sum_zero n)

pub sum_add : (n : ℕ) (f g : ℕ → ℕ) → sum_below n (λ k. f k + g k) ≡ sum_below n f + sum_below n g
sum_add zero f g = refl
sum_add (suc n) f g = omega (arith, sum_add n f g)

pub sum_swap : (n m : ℕ) (f : ℕ → ℕ → ℕ) → sum_below n (λ i. sum_below m (λ k. f i k)) ≡ sum_below m (λ k. sum_below n (λ i. f i k))
sum_swap zero m f = sym (sum_zero m)
sum_swap (suc n) m f = rw (sum_add m (λ k. sum_below n (λ i. f i k)) (λ k. f n k)) (ap (λ (x : ℕ). x + sum_below m (λ k. f n k)) (sum_swap n m f))

-- THE NUMBERS BELOW K × C are i × C + c
pub sum_pairs : (K C : ℕ) (f : ℕ → ℕ) → sum_below (K * C) f ≡ sum_below K (λ i. sum_below C (λ c. f (i * C + c)))
sum_pairs zero C f = ap (λ (n : ℕ). sum_below n f) (zero-mul C)
sum_pairs (suc K) C f =
    let e : suc K * C ≡ K * C + C = suc-mul K C in
    ap (λ (n : ℕ). sum_below n f) e ∙ sum_split (K * C) C f ∙ ap (λ (x : ℕ). x + sum_below C (λ c. f (K * C + c))) (sum_pairs K C f)

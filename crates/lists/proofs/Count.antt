-- Laws of sums, of counts and of tests. Assumes nothing.
use mathlib.Core.Path.{◌≡◌, refl, ap, ap₂}
use mathlib.Core.Bool.{Bool, true, false, ◌&&◌, ◌||◌}
use mathlib.Core.Logic.{⊎_elim}
use Prim.Native.Nat.{ℕ, zero, suc, ◌+◌, ◌*◌, ◌<◌, ◌≤◌}
use native.Mathlib.Nat.{add-zero, add-suc, eq-or-lt_of_le, le_of_suc-le-suc}
use native.Mathlib.Omega.{arith}
use Rattle.lists.specs.Count.{one_if, sum_below, count_below}

-- sums
pub sum_cong : (n : ℕ) (f g : ℕ → ℕ) → ((k : ℕ) → k < n → f k ≡ g k) → sum_below n f ≡ sum_below n g
sum_cong zero f g h = refl
sum_cong (suc n) f g h = ap₂ ◌+◌ (sum_cong n f g (λ k l. h k (omega arith))) (h n (omega arith))

pub sum_le : (n : ℕ) (f g : ℕ → ℕ) → ((k : ℕ) → k < n → f k ≤ g k) → sum_below n f ≤ sum_below n g
sum_le zero f g h = omega arith
sum_le (suc n) f g h = omega (arith, sum_le n f g (λ k l. h k (omega arith)), h n (omega arith))

pub sum_const : (n w : ℕ) → sum_below n (λ k. w) ≡ n * w
sum_const zero w = omega arith
sum_const (suc n) w = omega (arith, sum_const n w)

pub sum_bound : (n w : ℕ) (f : ℕ → ℕ) → ((k : ℕ) → k < n → f k ≤ w) → sum_below n f ≤ n * w
sum_bound n w f h = omega (arith, sum_le n f (λ k. w) h, sum_const n w)

pub sum_split : (a b : ℕ) (f : ℕ → ℕ) → sum_below (a + b) f ≡ sum_below a f + sum_below b (λ j. f (a + j))
sum_split a zero f = rw (add-zero a) (omega arith)
sum_split a (suc b) f = rw (add-suc a b) (omega (arith, sum_split a b f))

-- two sums whose members differ at one place only, by v
pub sum_at : (n i v : ℕ) (f g : ℕ → ℕ) → i < n → ((k : ℕ) → k < n → (k ≡ i → ⊥) → g k ≡ f k) → g i ≡ f i + v → sum_below n g ≡ sum_below n f + v
sum_at zero i v f g h same at = absurd (omega arith)
sum_at (suc n) i v f g h same at =
    ⊎_elim
    (λ e. omega (arith, sum_cong n g f (λ k l. same k (omega arith) (λ q. omega arith)), rw e at at))
    (λ l. omega (arith, sum_at n i v f g l (λ k m. same k (omega arith)) at, same n (omega arith) (λ q. omega arith)))
    (eq-or-lt_of_le (le_of_suc-le-suc h))

-- counts
pub count_all : (n : ℕ) (f : ℕ → Bool) → ((k : ℕ) → k < n → f k ≡ true) → count_below n f ≡ n
count_all zero f h = refl
count_all (suc n) f h = omega (arith, count_all n f (λ k l. h k (omega arith)), ap one_if (h n (omega arith)))

pub one_le : (b : Bool) → one_if b ≤ 1
one_le true = omega arith
one_le false = omega arith

pub count_le : (n : ℕ) (f : ℕ → Bool) → count_below n f ≤ n
count_le n f = omega (arith, sum_bound n 1 (λ k. one_if (f k)) (λ k l. one_le (f k)))

-- tests
pub and_both : (a b : Bool) → a && b ≡ true → (a ≡ true) × (b ≡ true)
and_both true b e = (refl, e)
and_both false b e = absurd (let z : ◌≡◌ {A = ℕ} 0 1 = cc in omega arith)

pub or_neither : (a b : Bool) → a || b ≡ false → (a ≡ false) × (b ≡ false)
or_neither true b e = absurd (let z : ◌≡◌ {A = ℕ} 0 1 = cc in omega arith)
or_neither false b e = (refl, e)

pub both_and : (a b : Bool) → a ≡ true → b ≡ true → a && b ≡ true
both_and a b p q = rw (p, q)

pub and_left_le : (a b : Bool) → one_if (a && b) ≤ one_if a
and_left_le true b = one_le b
and_left_le false b = omega arith

pub and_right_le : (a b : Bool) → one_if (a && b) ≤ one_if b
and_right_le true b = omega arith
and_right_le false b = omega arith

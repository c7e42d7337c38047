-- Laws of `number_in` and `bytes_of`. Assumes nothing.
use mathlib.Core.Path.{◌≡◌, refl, ap}
use mathlib.Core.List.{List, [], ◌∷◌}
use Prim.Native.Nat.{ℕ, zero, suc, ◌+◌, ◌*◌, ◌/◌, ◌%◌, ◌^◌, ◌<◌}
use native.Mathlib.Nat.{add-zero, mul-suc}
use native.Mathlib.Omega.{arith}
use lib.ListN.{length, get_or, drop}
use lib.Seq.{get_or-drop, drop-drop}
use lib.Pow.{pow-add}
use Rattle.numbers.specs.Numbers.{number_in, bytes_of}

pub number_step : (n : ℕ) (l : List ℕ) (j : ℕ) → number_in (suc n) (drop j l) ≡ get_or l j 0 + 256 * number_in n (drop (j + 1) l)
unfolding number_in
number_step n l j = rw (get_or-drop, add-zero, drop-drop)

pub pow_step : (n : ℕ) → 2 ^ (8 * suc n) ≡ 2 ^ (8 * n) * 256
pow_step n = rw (mul-suc, pow-add)

pub number_bound : (n : ℕ) (l : List ℕ) → ((i : ℕ) → get_or l i 0 < 256) → number_in n l < 2 ^ (8 * n)
unfolding number_in
number_bound zero l h = omega arith
number_bound (suc n) l h =
    let r : number_in n (drop 1 l) < 2 ^ (8 * n) = number_bound n (drop 1 l) (λ i. rw get_or-drop (h (1 + i))) in
    rw pow_step (omega (arith, h 0))

pub length_bytes : (n x : ℕ) → length (bytes_of n x) ≡ n
unfolding bytes_of
length_bytes zero x = refl
length_bytes (suc n) x = ap suc (length_bytes n (x / 256))

pub bytes_step : (n x : ℕ) → bytes_of (suc n) x ≡ x % 256 ∷ bytes_of n (x / 256)
unfolding bytes_of
bytes_step n x = refl

pub bytes_none : (x : ℕ) → bytes_of 0 x ≡ []
unfolding bytes_of
bytes_none x = refl

pub number_none : (l : List ℕ) → number_in 0 l ≡ 0
unfolding number_in
number_none l = refl

-- Bytes and numbers, there and back.
use mathlib.Core.Path.{◌≡◌, refl}
use mathlib.Core.List.{List, [], ◌∷◌, ◌++◌}
use Prim.Native.Nat.{ℕ, zero, suc, ◌+◌, ◌*◌, ◌/◌, ◌%◌, ◌^◌, ◌<◌}
use native.Mathlib.Omega.{arith}
use lib.Seq.{get_or-drop}
use lib.ListN.{get_or, drop, take}
use Rattle.numbers.specs.Numbers.{number_in, bytes_of, IsBytes, NumberBytes, BytesNumber}
use Rattle.numbers.proofs.Laws.{pow_step}

pub number_bytes_lem : NumberBytes
unfolding number_in bytes_of
number_bytes_lem zero x q h = omega arith
number_bytes_lem (suc n) x q h =
    let g : x < 2 ^ (8 * n) * 256 = rw (← pow_step n) h in
    let r : number_in n (bytes_of n (x / 256) ++ q) ≡ x / 256 = number_bytes_lem n (x / 256) q (omega arith) in
    rw r (omega arith)

pub bytes_number : BytesNumber
unfolding number_in bytes_of
bytes_number zero l b h = refl
bytes_number (suc n) [] b h = let z : ◌≡◌ {A = ℕ} 0 1 = omega arith in cc
bytes_number (suc n) (x ∷ l) b h =
    let v : ℕ = number_in n l in
    let p : (x + 256 * v) % 256 ≡ x = omega (arith, b 0) in
    let q : (x + 256 * v) / 256 ≡ v = omega (arith, b 0) in
    let r : bytes_of n v ≡ take n l = bytes_number n l (λ i. b (suc i)) (omega arith) in
    rw (p, q, r)

pub bytes_drop : (j : ℕ) (l : List ℕ) → ((i : ℕ) → get_or l i 0 < 256) → (i : ℕ) → get_or (drop j l) i 0 < 256
bytes_drop j l b i = rw get_or-drop (b (j + i))

-- ---- lists of bytes
pub bytes_cons : (x : ℕ) (l : List ℕ) → x < 256 → IsBytes l → IsBytes (x ∷ l)
bytes_cons x l h b zero = h
bytes_cons x l h b (suc i) = b i

pub bytes_none : IsBytes []
bytes_none i = omega arith

pub bytes_append : (a l : List ℕ) → IsBytes a → IsBytes l → IsBytes (a ++ l)
bytes_append [] l p q = q
bytes_append (x ∷ a) l p q = bytes_cons x (a ++ l) (p 0) (bytes_append a l (λ i. p (suc i)) q)

pub bytes_of_lem : (n x : ℕ) → IsBytes (bytes_of n x)
unfolding bytes_of
bytes_of_lem zero x = bytes_none
bytes_of_lem (suc n) x = bytes_cons (x % 256) (bytes_of n (x / 256)) (omega arith) (bytes_of_lem n (x / 256))

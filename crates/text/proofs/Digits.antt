-- Laws of `dec`, and the digits put from the first on. Assumes nothing.
use mathlib.Core.Path.{◌≡◌, refl, ap, ◌∙◌}
use mathlib.Core.Logic.{◌⊎◌, inl, inr}
use mathlib.Core.List.{[], ◌∷◌, ◌++◌}
use Prim.Native.Nat.{ℕ, zero, suc, ◌+◌, ◌/◌, ◌%◌, ◌≤◌, ◌<◌}
use native.Mathlib.Omega.{arith}
use borrow.Author.Tests.{lt-ltb, le-ltb}
use lib.ListN.{length, length-append}
use Rattle.text.specs.Characters.{digit0}
use Rattle.text.specs.Digits.{digits_by, dec}
use Rattle.text.specs.Inner.{HasRoom, Adds}
use Rattle.text.specs.declared.Page.{Page}
use Rattle.text.proofs.Chains.{room_after, adds_then}

-- any bound from n on gives the same digits
digits_any : (f g n : ℕ) → n ≤ f → n ≤ g → digits_by f n ≡ digits_by g n
unfolding digits_by
digits_any zero zero n h k = refl
digits_any zero (suc g) n h k = rw (lt-ltb n 10 (omega arith))
digits_any (suc f) zero n h k = rw (lt-ltb n 10 (omega arith))
digits_any (suc f) (suc g) n h k = rw (digits_any f g (n / 10) (omega arith) (omega arith))

pub dec_small : (n : ℕ) → n < 10 → dec n ≡ (digit0 + n) ∷ []
unfolding dec digits_by
dec_small zero h = refl
dec_small (suc m) h = rw lt-ltb

pub dec_more : (n : ℕ) → 10 ≤ n → dec n ≡ dec (n / 10) ++ ((digit0 + n % 10) ∷ [])
unfolding dec digits_by
dec_more zero h = let z : ◌≡◌ {A = ℕ} 0 1 = omega arith in cc
dec_more (suc m) h = rw (le-ltb (suc m) 10, digits_any m (suc m / 10) (suc m / 10) (omega arith) (omega arith))

-- one digit more
pub long_more : (n : ℕ) → 10 ≤ n → length (dec n) ≡ length (dec (n / 10)) + 1
long_more n h = ap length (dec_more n h) ∙ length-append (dec (n / 10)) ((digit0 + n % 10) ∷ [])

-- ---- the last digit after the others, of which a number below 10 has none
abbrev pub Tens : ℕ → Page → Page → Type 0
Tens n p q = ((10 ≤ n) × Adds (dec (n / 10)) p q) ⊎ ((n < 10) × (q ≡ p))

module _ (n : ℕ) (p : Page) (room : HasRoom (dec n) p) where
  pub room_tens : 10 ≤ n → HasRoom (dec (n / 10)) p
  room_tens h = omega (arith, room, long_more n h)

  pub room_last : (q : Page) → Tens n p q → HasRoom ((digit0 + n % 10) ∷ []) q
  room_last q (inl (h, e)) = room_after (dec (n / 10)) ((digit0 + n % 10) ∷ []) p (rw (dec_more n h) at room) q e
  room_last q (inr (h, e)) = rw e (omega (arith, room, ap length (dec_small n h)))

  pub put_last : (q : Page) → Tens n p q → (r : Page) → Adds ((digit0 + n % 10) ∷ []) q r → Adds (dec n) p r
  put_last q (inl (h, e)) r f = rw (dec_more n h) (adds_then (dec (n / 10)) ((digit0 + n % 10) ∷ []) p (rw (dec_more n h) at room) q e r f)
  put_last q (inr (h, e)) r f =
      let d : n % 10 ≡ n = omega arith in
      rw (dec_small n h) (rw (e, d) at f)

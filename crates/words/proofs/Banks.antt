-- The place of a word in a bank, one for each link and colour. Assumes nothing.
use mathlib.Core.Path.{◌≡◌, refl}
use mathlib.Core.Bool.{Bool, true, false, ◌&&◌}
use Prim.Native.Nat.{ℕ, ◌<◌}
use native.Mathlib.Omega.{arith}
use lib.Dec.{eqb}
use borrow.Author.Tests.{eqb-true, eqb-false}
use Rattle.words.specs.Bank.{most_colours, bank_size, bank_at, bank_link, bank_colour}

module _ (l c : ℕ) where
  pub bank_in : l < 32 → c < most_colours → bank_at l c < bank_size
  bank_in h g = omega arith

  module _ (few : c < most_colours) where
    pub bank_link_lem : bank_link (bank_at l c) ≡ l
    bank_link_lem = omega arith

    pub bank_colour_lem : bank_colour (bank_at l c) ≡ c
    bank_colour_lem = omega arith

    -- a place is that of a link and a colour exactly when it leads back to both
    pub bank_test : (a : ℕ) → eqb (bank_at l c) a ≡ (eqb l (bank_link a) && eqb c (bank_colour a))
    bank_test a = go (eqb (bank_at l c) a) refl (eqb l (bank_link a)) refl (eqb c (bank_colour a)) refl
      where
        go : (x : Bool) → eqb (bank_at l c) a ≡ x → (y : Bool) → eqb l (bank_link a) ≡ y → (z : Bool) → eqb c (bank_colour a) ≡ z → x ≡ (y && z)
        go true e true f true g = refl
        go true e true f false g = absurd (eqb-false c (bank_colour a) g (omega (arith, eqb-true (bank_at l c) a e)))
        go true e false f z g = absurd (eqb-false l (bank_link a) f (omega (arith, eqb-true (bank_at l c) a e)))
        go false e true f true g = absurd (eqb-false (bank_at l c) a e (omega (arith, eqb-true l (bank_link a) f, eqb-true c (bank_colour a) g)))
        go false e true f false g = refl
        go false e false f z g = refl

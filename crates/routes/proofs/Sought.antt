-- A test of a list by the code, in the words of the checks. Assumes nothing.
use mathlib.Core.Path.{◌≡◌, refl}
use mathlib.Core.Bool.{Bool, false}
use mathlib.Core.List.{List, [], ◌∷◌}
use Prim.Native.Nat.{ℕ, zero, suc, ◌+◌, ◌-◌, ◌<◌}
use native.Mathlib.Nat.{not-suc-le-zero, le_of_suc-le-suc}
use native.Mathlib.Numerals.{add-one}
use lib.Dec.{eqb}
use lib.ListN.{length, get_or, take, drop}
use lib.Seq.{drop-cons}
use Rattle.std.specs.List.{list_any}
use Rattle.places.proofs.Parts.{part_rest}
use Rattle.lists.proofs.Count.{or_neither}
use Rattle.ledger.specs.Lists.{any_of}
use Rattle.ledger.proofs.Lists.{eqb_flip}

module _ {A : Type 0} where
  -- place j and the rest
  pub next_place : (l : List A) (j : ℕ) (d : A) → j < length l → drop j l ≡ get_or l j d ∷ drop (j + 1) l
  next_place l j d h = rw add-one (drop-cons l j d h)

  -- what no place passes, place j doesn't
  pub no_place_lem : (p : A → Bool) (l : List A) (j : ℕ) (d : A) → any_of p l ≡ false → j < length l → p (get_or l j d) ≡ false
  no_place_lem p [] j d e h = absurd (not-suc-le-zero h)
  no_place_lem p (x ∷ l) zero d e h = (or_neither (p x) (any_of p l) e).0
  no_place_lem p (x ∷ l) (suc j) d e h = no_place_lem p l j d (or_neither (p x) (any_of p l) e).1 (le_of_suc-le-suc h)

-- a test by the code is one of the checks'
pub any_same : {A : Type 0} (p q : A → Bool) → ((x : A) → p x ≡ q x) → (l : List A) → list_any p l ≡ any_of q l
any_same p q e [] = refl
any_same p q e (x ∷ l) = rw (e x, any_same p q e l)

-- whether a link stands from a place on
pub stands_from : (l : List ℕ) (a x : ℕ) → list_any (λ y. eqb y x) (take (length l - a) (drop a l)) ≡ any_of (eqb x) (drop a l)
stands_from l a x = rw part_rest (any_same (λ y. eqb y x) (eqb x) (λ y. eqb_flip y x) (drop a l))

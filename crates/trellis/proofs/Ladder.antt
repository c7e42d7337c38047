-- A trellis by the number of its stages, as a loop over the hops builds it. Assumes nothing.
use mathlib.Core.Path.{◌≡◌, refl, sym, ◌∙◌, ap, ap₂}
use mathlib.Core.List.{List, [], ◌∷◌, ◌++◌}
use Prim.Native.Nat.{ℕ, zero, suc, ◌<◌}
use native.Mathlib.Omega.{arith}
use lib.ListN.{get_or, length}
use Rattle.trellis.specs.Trellis.{Stage, Trellis, ◌▸◌, grow}
use Rattle.trellis.proofs.Survivor.{tab}

-- t with the first n of the stages f 0, f 1, ..
abbrev pub ladder : Trellis → (ℕ → Stage) → ℕ → Trellis
ladder t f zero = t
ladder t f (suc n) = ladder t f n ▸ f n

pub grow_append : (t : Trellis) (sts us : List Stage) → grow t (sts ++ us) ≡ grow (grow t sts) us
grow_append t [] us = refl
grow_append t (st ∷ sts) us = grow_append (t ▸ st) sts us

pub grow_tab : (t : Trellis) (f : ℕ → Stage) (n : ℕ) → grow t (tab n f) ≡ ladder t f n
grow_tab t f zero = refl
grow_tab t f (suc n) = grow_append t (tab n f) (f n ∷ []) ∙ ap (λ (u : Trellis). u ▸ f n) (grow_tab t f n)

pub ladder_cong : (t : Trellis) (f g : ℕ → Stage) (n : ℕ) → ((j : ℕ) → j < n → f j ≡ g j) → ladder t f n ≡ ladder t g n
ladder_cong t f g zero h = refl
ladder_cong t f g (suc n) h = ap₂ ◌▸◌ (ladder_cong t f g n (λ j l. h j (omega arith))) (h n (omega arith))

-- a table that begins with its first entry
pub tab_cons : {A : Type 0} (n : ℕ) (f : ℕ → A) → tab (suc n) f ≡ f 0 ∷ tab n (λ j. f (suc j))
tab_cons zero f = refl
tab_cons (suc n) f = ap (λ (l : List _). l ++ (f (suc n) ∷ [])) (tab_cons n f)

-- the stages between adjacent members of a list, and the same by number
module _ {L : Type 0} (f : L → L → Stage) where
  abbrev pub between : L → List L → List Stage
  between l [] = []
  between l (m ∷ ms) = f l m ∷ between m ms

  pub between_tab : (d l : L) (ms : List L) → between l ms ≡ tab (length ms) (λ j. f (get_or (l ∷ ms) j d) (get_or ms j d))
  between_tab d l [] = refl
  between_tab d l (m ∷ ms) =
      ap (λ (x : List Stage). f l m ∷ x) (between_tab d m ms) ∙ sym (tab_cons (length ms) (λ j. f (get_or (l ∷ m ∷ ms) j d) (get_or (m ∷ ms) j d)))

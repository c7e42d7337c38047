-- The colours of a link, and a number for each of them in four places. Assumes nothing.
use mathlib.Core.Path.{◌≡◌, refl, sym, ap, ◌∙◌}
use mathlib.Core.List.{List, [], ◌∷◌, ◌++◌, append_assoc}
use mathlib.Core.Logic.{⊎_elim}
use Prim.Native.Nat.{ℕ, zero, suc, ◌+◌, ◌-◌, ◌<◌, ◌≤◌}
use native.Mathlib.Nat.{eq-or-lt_of_le, le_of_suc-le-suc, not-suc-le-zero}
use native.Mathlib.Numerals.{add-one}
use native.Mathlib.Omega.{arith}
use lib.ListN.{length, get_or, set, replicate, length-append, get_or-append}
use lib.Seq.{set_at, get_or_at, get_or-append-add}
use Rattle.trellis.specs.Paths.{gather}
use Rattle.words.specs.Bank.{most_colours}
use Rattle.network.specs.declared.Link.{Link}
use Rattle.ledger.specs.Sessions.{link_colours, link_turn, by_colour}

-- ---- C is 1 to 4, and R is below C
pub some_colour : (k : Link) → 0 < link_colours k
unfolding link_colours
some_colour k = omega arith

pub few_colours : (k : Link) → link_colours k ≤ most_colours
unfolding link_colours
few_colours k = omega arith

pub few_turns : (k : Link) → link_turn k < link_colours k
unfolding link_colours link_turn
few_turns k = omega arith

-- ---- a number for each colour
zeros : (m i : ℕ) → ◌≡◌ {A = ℕ} (get_or (replicate m 0) i 0) 0
zeros zero i = refl
zeros (suc m) zero = refl
zeros (suc m) (suc i) = zeros m i

module _ (f : ℕ → ℕ) where
  abbrev firstly : ℕ → List ℕ
  firstly C = gather C (λ c. f c ∷ [])

  firstly_long : (C : ℕ) → length (firstly C) ≡ C
  firstly_long zero = refl
  firstly_long (suc n) = length-append (firstly n) (f n ∷ []) ∙ rw (firstly_long n) (add-one n)

  firstly_at : (C c : ℕ) → c < C → get_or (firstly C) c 0 ≡ f c
  firstly_at zero c h = absurd (not-suc-le-zero h)
  firstly_at (suc n) c h =
      ⊎_elim (λ (e : c ≡ n). rw e (get_or_at (firstly n) (f n) [] 0 n (firstly_long n)))
      (λ (l : c < n). get_or-append (firstly n) (f n ∷ []) 0 c (omega (arith, l, firstly_long n)) ∙ firstly_at n c l)
      (eq-or-lt_of_le (le_of_suc-le-suc h))

  pub colour_below : (C c : ℕ) → c < C → get_or (by_colour C f) c 0 ≡ f c
  unfolding by_colour
  colour_below C c h = get_or-append (firstly C) (replicate (most_colours - C) 0) 0 c (omega (arith, h, firstly_long C)) ∙ firstly_at C c h

  pub colour_past : (C c : ℕ) → C ≤ c → get_or (by_colour C f) c 0 ≡ 0
  unfolding by_colour
  colour_past C c h =
      let e : c ≡ length (firstly C) + (c - C) = omega (arith, h, firstly_long C) in
      ap (λ (i : ℕ). get_or (by_colour C f) i 0) e ∙ get_or-append-add (firstly C) (replicate (most_colours - C) 0) (c - C) 0 ∙ zeros (most_colours - C) (c - C)

  -- one colour more
  pub colour_more : (c w : ℕ) → c < most_colours → w ≡ f c → set (by_colour c f) c w ≡ by_colour (c + 1) f
  unfolding by_colour
  colour_more c w h e =
      let left : most_colours - c ≡ suc (most_colours - suc c) = omega arith in
      rw (e, add-one c, left)
      (set_at (firstly c) 0 (replicate (most_colours - suc c) 0) (f c) c (firstly_long c)
      ∙ sym (append_assoc (firstly c) (f c ∷ []) (replicate (most_colours - suc c) 0)))

-- by numbers that are the same in each colour
pub colour_same : (C : ℕ) (f g : ℕ → ℕ) → ((c : ℕ) → c < C → f c ≡ g c) → by_colour C f ≡ by_colour C g
unfolding by_colour
colour_same C f g same = ap (λ (l : List ℕ). l ++ replicate (most_colours - C) 0) (go C same)
  where
    go : (n : ℕ) → ((c : ℕ) → c < n → f c ≡ g c) → gather n (λ c. f c ∷ []) ≡ gather n (λ c. g c ∷ [])
    go zero h = refl
    go (suc n) h = rw (go n (λ c l. h c (omega (arith, l))), h n (omega arith))

-- What a cell says of a frame, and of two ends the better by their cells. Assumes nothing.
use mathlib.Core.Path.{◌≡◌, refl, sym, ◌∙◌, ap}
use mathlib.Core.Bool.{Bool, true, false, ◌&&◌, cond}
use Prim.Native.Nat.{ℕ, ◌<◌, ◌≤◌}
use native.Mathlib.Omega.{arith}
use native.Mathlib.Decide.{dec_lt}
use lib.Dec.{ltb, eqb}
use borrow.Author.Tests.{ltb-true, ltb-false, lt-ltb, le-ltb}
use Rattle.trellis.specs.Trellis.{never, after}
use Rattle.trellis.proofs.Survivor.{nobody, best, better, reach_of, last_offer}
use Rattle.search.specs.Inner.{cell_reach, way_of}

pub reach_after : (c : ℕ) → c < 32768 → cell_reach c ≡ after c
unfolding cell_reach
reach_after c h = rw (lt-ltb c 32768 h)

pub reach_never : (c : ℕ) → 32768 ≤ c → cell_reach c ≡ never
unfolding cell_reach
reach_never c h = rw (le-ltb c 32768 h)

pub way_best : (c h k : ℕ) → c < 32768 → way_of c h k ≡ best c h k
unfolding way_of
way_best c h k l = rw (lt-ltb c 32768 l)

pub way_nobody : (c h k : ℕ) → 32768 ≤ c → way_of c h k ≡ nobody
unfolding way_of
way_nobody c h k l = rw (le-ltb c 32768 l)

-- a way says what its cell says
pub reach_said : (c h k : ℕ) → reach_of (way_of c h k) ≡ cell_reach c
reach_said c h k =
    elim (dec_lt c 32768) [
      | yes l ↦ ap reach_of (way_best c h k l) ∙ sym (reach_after c l)
      | no l ↦ ap reach_of (way_nobody c h k (omega arith)) ∙ sym (reach_never c (omega arith))
    ]

-- the first of two ends, unless the cell of the other is smaller, is the better one
module _ (a f b g : ℕ) where
  end_less : b < a → way_of b 0 g ≡ better (way_of a 0 f) (last_offer (cell_reach b)) g
  end_less s =
      elim (dec_lt a 32768) [
        | yes l ↦ rw (way_best b 0 g (omega arith), way_best a 0 f l, reach_after b (omega arith), lt-ltb b a s)
        | no l ↦ elim (dec_lt b 32768) [
          | yes m ↦ rw (way_best b 0 g m, way_nobody a 0 f (omega arith), reach_after b m)
          | no m ↦ rw (way_nobody b 0 g (omega arith), way_nobody a 0 f (omega arith), reach_never b (omega arith))
        ]
      ]

  end_kept : a ≤ b → way_of a 0 f ≡ better (way_of a 0 f) (last_offer (cell_reach b)) g
  end_kept s =
      elim (dec_lt b 32768) [
        | yes l ↦ rw (way_best a 0 f (omega arith), reach_after b l, le-ltb b a s) (stay (eqb b a))
        | no l ↦ rw (reach_never b (omega arith))
      ]
    where
      stay : (y : Bool) → best a 0 f ≡ cond (y && ltb 0 0) (best b 0 g) (best a 0 f)
      stay true = refl
      stay false = refl

  pub end_chosen : (r h : ℕ) → r ≡ cond (ltb b a) b a → h ≡ cond (ltb b a) g f → way_of r 0 h ≡ better (way_of a 0 f) (last_offer (cell_reach b)) g
  end_chosen r h p q = rw (p, q) (go (ltb b a) refl)
    where
      go : (y : Bool) → ltb b a ≡ y → way_of (cond y b a) 0 (cond y g f) ≡ better (way_of a 0 f) (last_offer (cell_reach b)) g
      go true e = end_less (ltb-true b a e)
      go false e = end_kept (ltb-false b a e)

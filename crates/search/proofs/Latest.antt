-- The latest position with the least key, of one window and of two that are joined, over any keys. Assumes nothing.
use mathlib.Core.Path.{◌≡◌, refl, ◌∙◌, ap}
use mathlib.Core.Bool.{Bool, true, false, cond}
use Prim.Native.Nat.{ℕ, ◌+◌, ◌<◌, ◌≤◌}
use native.Mathlib.Decide.{dec_lt}
use native.Mathlib.Omega.{arith}
use lib.Dec.{ltb}
use borrow.Author.Tests.{ltb-true, ltb-false}
use Rattle.search.specs.Inner.{Latest, Picked}

-- a pick, with its key
pub record Chosen (key : ℕ → ℕ) (K e n frame value : ℕ) : Type 0 where
  pub pick : Picked key K e n frame
  pub valued : value ≡ key pick.position

module _ (key : ℕ → ℕ) where
  -- of one position
  pub latest_one : (e : ℕ) → Latest key e 1 e
  latest_one e = record {
    begins = omega arith;
    ends = omega arith;
    least = λ q l m. let x : q ≡ e = omega arith in omega (arith, ap key x);
    latest = λ q l m. absurd (omega arith);
  }

  -- ---- TWO WINDOWS: one of w positions that ends with e, and one of v that ends s positions before it, begins no later, and leaves none out between
  module _ (e f s w v p q : ℕ) (apart : e ≡ f + s) (near : s ≤ w) (far : w ≤ s + v) (a : Latest key e w p) (b : Latest key f v q) where
    -- the far one has the smaller key
    join_far : key q < key p → Latest key e (s + v) q
    join_far l = record {
      begins = omega (arith, b.begins);
      ends = omega (arith, b.ends);
      least = λ x m n. elim (dec_lt e (x + w)) [
        | yes y ↦ omega (arith, a.least x y n)
        | no y ↦ b.least x (omega arith) (omega arith)
      ];
      latest = λ x m n. elim (dec_lt e (x + w)) [
        | yes y ↦ omega (arith, a.least x y n)
        | no y ↦ b.latest x m (omega arith)
      ];
    }

    -- or it has not
    join_near : key p ≤ key q → Latest key e (s + v) p
    join_near l = record {
      begins = omega (arith, a.begins);
      ends = a.ends;
      least = λ x m n. elim (dec_lt e (x + w)) [
        | yes y ↦ a.least x y n
        | no y ↦ omega (arith, b.least x (omega arith) (omega arith))
      ];
      latest = a.latest;
    }

  -- THE FIRST OF TWO CHOICES, UNLESS THE KEY OF THE OTHER IS SMALLER, is the choice of both windows
  pub chosen_join : (K e f s w v n a x b y r z : ℕ) → e ≡ f + s → s ≤ w → w ≤ s + v → n ≡ s + v → Chosen key K e w a x → Chosen key K f v b y
      → z ≡ cond (ltb y x) y x → r ≡ cond (ltb y x) b a → Chosen key K e n r z
  chosen_join K e f s w v n a x b y r z apart near far many c d zed are = go (ltb y x) refl
    where
      go : (t : Bool) → ltb y x ≡ t → Chosen key K e n r z
      go true t =
          let l : y < x = ltb-true y x t in
          record {
            pick = record {
              position = d.pick.position;
              stands = are ∙ ap (λ (u : Bool). cond u b a) t ∙ d.pick.stands;
              latest = rw many (join_far e f s w v c.pick.position d.pick.position apart near far c.pick.latest d.pick.latest (omega (arith, c.valued, d.valued)));
            };
            valued = zed ∙ ap (λ (u : Bool). cond u y x) t ∙ d.valued;
          }
      go false t =
          let l : x ≤ y = ltb-false y x t in
          record {
            pick = record {
              position = c.pick.position;
              stands = are ∙ ap (λ (u : Bool). cond u b a) t ∙ c.pick.stands;
              latest = rw many (join_near e f s w v c.pick.position d.pick.position apart near far c.pick.latest d.pick.latest (omega (arith, c.valued, d.valued)));
            };
            valued = zed ∙ ap (λ (u : Bool). cond u y x) t ∙ c.valued;
          }

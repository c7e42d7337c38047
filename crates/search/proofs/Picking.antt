-- The picks of windows, stored frame by frame. Assumes nothing.
use mathlib.Core.Path.{◌≡◌, refl, sym, ◌∙◌, ap, subst}
use mathlib.Core.Bool.{cond}
use mathlib.Core.List.{List}
use Prim.Native.Nat.{ℕ, ◌+◌, ◌-◌, ◌<◌, ◌≤◌}
use native.Mathlib.Omega.{arith}
use lib.Dec.{ltb}
use lib.ListN.{get_or, set, length, length-set}
use lib.Seq.{get_or-set_same, get_or-set_other}
use borrow.Author.Count.{below_more}
use Rattle.search.specs.Inner.{key_at, Picked, Trail, Windows}
use Rattle.search.proofs.Latest.{Chosen, chosen_join}
use Rattle.search.proofs.Positions.{chosen_own, picked_seen, picked_in}

-- one place more of a list that is filled place by place
stored : (P : ℕ → ℕ → Type 0) (at : ℕ → ℕ) (l : List ℕ) (n v : ℕ) → at n < length l → ((i : ℕ) → i < n → at i ≡ at n → ⊥) → ((i : ℕ) → i < n → P i (get_or l (at i) 0)) → P n v
    → (i : ℕ) → i < n + 1 → P i (get_or (set l (at n) v) (at i) 0)
stored P at l n v h apart each here =
    below_more (λ i. P i (get_or (set l (at n) v) (at i) 0)) n (λ i q. rw (get_or-set_other l (at n) (at i) v 0 (apart i q)) (each i q)) (rw (get_or-set_same l (at n) v 0 h) here)

module _ (cycle K : ℕ) (keys : List ℕ) where
  abbrev key : ℕ → ℕ
  key = key_at cycle K keys

  -- ---- the windows that end with one frame
  pub trail_none : (e : ℕ) (behind : List ℕ) → length behind ≡ 64 → Trail cycle K keys e 0 behind
  trail_none e behind l = record { long = l; each = λ o m. absurd (omega arith) }

  pub trail_more : (e o frame value : ℕ) (behind : List ℕ) → o < 64 → Trail cycle K keys e o behind → Chosen key K (e + K) (o + 1) frame value → Trail cycle K keys e (o + 1) (set behind o frame)
  trail_more e o frame value behind l t c = record {
    long = length-set behind o frame ∙ t.long;
    each = stored (λ (i x : ℕ). Picked key K (e + K) (i + 1) x) (λ i. i) behind o frame (omega (arith, t.long)) (λ i m q. omega arith) t.each c.pick;
  }

  -- the window of n frames that a block's frame still has up to its first
  pub trail_part : (e w n frame : ℕ) (behind : List ℕ) → Trail cycle K keys e w behind → 0 < n → n ≤ w → frame ≡ get_or behind (n - 1) 0 → Picked key K (e + K) n frame
  trail_part e w n frame behind t some few f =
      let whole : n - 1 + 1 ≡ n = omega arith in
      subst (λ (m : ℕ). Picked key K (e + K) m frame) whole (subst (Picked key K (e + K) (n - 1 + 1)) (sym f) (t.each (n - 1) (omega arith)))

  -- ---- the windows that end with each frame in turn
  module _ (w : ℕ) where
    pub windows_none : (preds : List ℕ) → length preds ≡ 64 → Windows cycle K keys w 0 preds
    windows_none preds l = record { long = l; each = λ i m. absurd (omega arith) }

    pub windows_more : (n m frame : ℕ) (preds : List ℕ) → m ≡ n + 1 → n < 64 → Windows cycle K keys w n preds → Picked key K (n + K) w frame → Windows cycle K keys w m (set preds n frame)
    windows_more n m frame preds next l s p = record {
      long = length-set preds n frame ∙ s.long;
      each = λ i h. stored (λ (i x : ℕ). Picked key K (i + K) w x) (λ i. i) preds n frame (omega (arith, s.long)) (λ i m q. omega arith) s.each p i (omega arith);
    }

  -- ---- a block: the frames from `first` on, of which each has a window that begins no later than that frame
  module _ (w first span : ℕ) (behind : List ℕ) (t : Trail cycle K keys first w behind) (few : K ≤ 64) (narrow : w ≤ K) (part : span ≤ w) (inside : first + span ≤ K) where
    -- the part up to `first` of the window of frame first + j
    block_part : (j frame : ℕ) → j < span → frame ≡ get_or behind (w - 1 - j) 0 → Picked key K (first + K) (w - j) frame
    block_part j frame l f =
        let at : w - 1 - j ≡ w - j - 1 = omega arith in
        trail_part first w (w - j) frame behind t (omega arith) (omega arith) (f ∙ ap (λ (x : ℕ). get_or behind x 0) at)

    pub block_in : (j frame : ℕ) → j < span → frame ≡ get_or behind (w - 1 - j) 0 → frame < K
    block_in j frame l f = picked_in cycle K keys first (w - j) frame (omega arith) (omega arith) (block_part j frame l f)

    -- ONE FRAME MORE OF A BLOCK: the best of the frames from `first` on, and of it and the part up to `first` the better
    pub block_more : (j e a x own frame value r z pick best : ℕ) (preds : List ℕ) → 0 < j → j < span → e + 1 ≡ first + K + j → Chosen key K e j a x
        → own ≡ get_or keys (first + j) 0 → z ≡ cond (ltb x own) x own → r ≡ cond (ltb x own) a (first + j)
        → frame ≡ get_or behind (w - 1 - j) 0 → value ≡ get_or keys frame 0 + cond (ltb first frame) cycle 0
        → best ≡ cond (ltb value z) value z → pick ≡ cond (ltb value z) frame r → Windows cycle K keys w (first + j) preds
        → Windows cycle K keys w (first + (j + 1)) (set preds (first + j) pick) × Chosen key K (first + j + K) (j + 1) r z
    block_more j e a x own frame value r z pick best preds some l e-is run own_is z-is r-is f v best-is pick_is s =
        let next : Chosen key K (first + j + K) (j + 1) r z =
        chosen_join key K (first + j + K) e 1 1 j (j + 1) (first + j) own a x r z (omega arith) (omega arith) (omega arith) (omega arith)
        (chosen_own cycle K keys (first + j) (first + j) own (omega arith) refl own_is) run z-is r-is in
        let far : Chosen key K (first + K) (w - j) frame value = picked_seen cycle K keys first (w - j) frame value (omega arith) (omega arith) (block_part j frame l f) v in
        let both : Chosen key K (first + j + K) w pick best =
        chosen_join key K (first + j + K) (first + K) j (j + 1) (w - j) w r z frame value pick best (omega arith) (omega arith) (omega arith) (omega arith) next far best-is pick_is in
        (windows_more w (first + j) (first + (j + 1)) pick preds (omega arith) (omega arith) s both.pick, next)

-- The frames of the hop before, gathered one after the other by the frame that the least hold leads each to. Assumes nothing.
use mathlib.Core.Path.{◌≡◌, refl, sym, ◌∙◌, ap, ap₂, subst}
use mathlib.Core.Bool.{Bool, true, false, cond}
use mathlib.Core.List.{List}
use mathlib.Core.Logic.{⊎_elim}
use Prim.Native.Nat.{ℕ, zero, suc, ◌+◌, ◌-◌, ◌*◌, ◌%◌, ◌<◌, ◌≤◌}
use native.Mathlib.Nat.{eq-or-lt_of_le, mul-le-mul, mul-le-mul_right, mod-lt}
use native.Mathlib.Decide.{dec_lt, ℕ_discrete}
use native.Mathlib.Omega.{arith}
use lib.Dec.{ltb}
use lib.ListN.{get_or, length, replicate, length-set, length-replicate}
use lib.Seq.{get_or-set_same, get_or-set_other}
use borrow.Author.Tests.{ltb-true, ltb-false}
use Rattle.forwarding.specs.declared.Hop.{Hop}
use Rattle.forwarding.specs.Forwarding.{reference_into, least_hold}
use Rattle.forwarding.proofs.Windows.{first_frame}
use Rattle.search.specs.Inner.{Within, key_from, Entered, Gathers, Keys}

-- fewer frames than a cycle take no longer than a cycle
pub within_time : (time K n : ℕ) → n ≤ K → K * time ≤ 960 → n * time ≤ 960
within_time time K n h l = omega (arith, mul-le-mul_right {m = n} {n = K} time h)

-- at most four colours lead to at most 64 frames each
pub few_leave : (m o : ℕ) → m ≤ 4 → o ≤ 64 → m * o ≤ 256
few_leave m o h l = mul-le-mul {n₁ = m} {m₁ = o} {n₂ = 4} {m₂ = 64} h l

-- the frame that the least hold leads to, by the reference frame
pub led_first : (g h : Hop) (k r y i : ℕ) → 0 < h.frames → r ≡ reference_into g h k → y ≡ least_hold h → i ≡ (r + y) % h.frames → (i ≡ first_frame g h k) × (i < h.frames)
led_first g h k r y i p er ey e = (e ∙ ap₂ (λ (x z : ℕ). (x + z) % h.frames) er ey, omega (arith, e, mod-lt (r + y) p))

-- 64 times the same
same_at : (n v i : ℕ) → i < n → get_or (replicate n v) i 0 ≡ v
same_at zero v i l = absurd (omega arith)
same_at (suc n) v zero l = refl
same_at (suc n) v (suc i) l = same_at n v i (omega arith)

pub most_same : (n v i : ℕ) → get_or (replicate n v) i 0 ≤ v
most_same zero v i = omega arith
most_same (suc n) v zero = omega arith
most_same (suc n) v (suc i) = most_same n v i

module _ (first : ℕ → ℕ) (time K : ℕ) (cells : List ℕ) (short : K * time ≤ 960) where
  pub none_gathered : K ≤ 64 → Gathers first time K cells 0 (replicate 64 33728) (replicate 64 0)
  none_gathered few = record {
    keys_long = length-replicate {A = ℕ} 64 33728;
    froms_long = length-replicate {A = ℕ} 64 0;
    small = most_same 64 33728;
    few = λ a. omega (arith, most_same 64 0 a);
    waits = λ a m n. omega (arith, same_at 64 33728 a (omega arith), within_time time K (K - a) (omega arith) short);
    least = λ k m. absurd (omega arith);
    smallest = λ k m. absurd (omega arith);
    own = λ a m n. absurd (omega (arith, same_at 64 33728 a (omega arith)));
  }

  module _ (n a key : ℕ) (keys froms keys' froms' : List ℕ) (g : Gathers first time K cells n keys froms) (is : a ≡ first n) (in_cycle : a < K) (few : K ≤ 64)
      (keyed : key ≡ key_from time K cells a n) (w : Within 5760 (get_or cells n 0)) (of-64 : n < 64) (e : Entered a key n keys froms keys' froms') where
    abbrev kept : ℕ
    kept = get_or keys a 0

    -- the key that a frame has now, and the frame before
    here : get_or keys' a 0 ≡ cond (ltb key kept) key kept
    here = ap (λ (l : List ℕ). get_or l a 0) e.keyed ∙ get_or-set_same keys a (cond (ltb key kept) key kept) 0 (omega (arith, g.keys_long))

    from_here : get_or froms' a 0 ≡ cond (ltb key kept) n (get_or froms a 0)
    from_here = ap (λ (l : List ℕ). get_or l a 0) e.from ∙ get_or-set_same froms a (cond (ltb key kept) n (get_or froms a 0)) 0 (omega (arith, g.froms_long))

    there : (b : ℕ) → (b ≡ a → ⊥) → get_or keys' b 0 ≡ get_or keys b 0
    there b d = ap (λ (l : List ℕ). get_or l b 0) e.keyed ∙ get_or-set_other keys a b (cond (ltb key kept) key kept) 0 d

    from_there : (b : ℕ) → (b ≡ a → ⊥) → get_or froms' b 0 ≡ get_or froms b 0
    from_there b d = ap (λ (l : List ℕ). get_or l b 0) e.from ∙ get_or-set_other froms a b (cond (ltb key kept) n (get_or froms a 0)) 0 d

    -- the frame a has the new key now, or the one that it had
    two : {A : Type 0} → (key < kept → get_or keys' a 0 ≡ key → get_or froms' a 0 ≡ n → A) → (kept ≤ key → get_or keys' a 0 ≡ kept → get_or froms' a 0 ≡ get_or froms a 0 → A) → A
    two {A} new old = go (ltb key kept) refl
      where
        go : (t : Bool) → ltb key kept ≡ t → A
        go true t = new (ltb-true key kept t) (here ∙ ap (λ (u : Bool). cond u key kept) t) (from_here ∙ ap (λ (u : Bool). cond u n (get_or froms a 0)) t)
        go false t = old (ltb-false key kept t) (here ∙ ap (λ (u : Bool). cond u key kept) t) (from_here ∙ ap (λ (u : Bool). cond u n (get_or froms a 0)) t)

    -- what holds of a, and of every other frame
    each : (A : ℕ → Type 0) → A a → ((b : ℕ) → (b ≡ a → ⊥) → A b) → (b : ℕ) → A b
    each A at other b = elim (ℕ_discrete b a) [ yes q ↦ subst A (sym q) at | no q ↦ other b q ]

    wait : (K - a) * time ≤ 960
    wait = within_time time K (K - a) (omega arith) short

    -- a key as large as that of no schedule is one of no schedule
    far : 32768 ≤ key → 32768 + (K - a) * time ≤ key
    far l = elim (dec_lt (get_or cells n 0) 32768) [ yes m ↦ absurd (omega (arith, w.ticks m, wait)) | no m ↦ omega arith ]

    -- a frame that leads elsewhere is one of those before
    elsewhere : (k : ℕ) → k < n + 1 → (first k ≡ a → ⊥) → k < n
    elsewhere k l q = ⊎_elim (λ x. absurd (q (ap first x ∙ sym is))) (λ x. x) (eq-or-lt_of_le (omega arith))

    least_now : (k : ℕ) → k < n + 1 → get_or keys' (first k) 0 ≤ key_from time K cells (first k) k
    least_now k l =
        elim (ℕ_discrete (first k) a) [
          | yes q ↦ rw q (⊎_elim (λ x. at_new k x q) (λ x. at_old k x q) (eq-or-lt_of_le (omega arith)))
          | no q ↦ rw (there (first k) q) (g.least k (elsewhere k l q))
        ]
      where
        at_new : (k : ℕ) → k ≡ n → first k ≡ a → get_or keys' a 0 ≤ key_from time K cells a k
        at_new k x q = rw x (two (λ l v f. omega arith) (λ l v f. omega arith))

        at_old : (k : ℕ) → k < n → first k ≡ a → get_or keys' a 0 ≤ key_from time K cells a k
        at_old k x q = let o : get_or keys a 0 ≤ key_from time K cells a k = rw q at (g.least k x) in two (λ l v f. omega arith) (λ l v f. omega arith)

    smallest_now : (k : ℕ) → k < n + 1 → get_or keys' (first k) 0 < 32768 → k < get_or froms' (first k) 0 → get_or keys' (first k) 0 < key_from time K cells (first k) k
    smallest_now k l m f =
        elim (ℕ_discrete (first k) a) [
          | yes q ↦ rw q (at_a q (rw q at m) (rw q at f))
          | no q ↦ rw (there (first k) q) (g.smallest k (elsewhere k l q) (rw (there (first k) q) at m) (rw (from_there (first k) q) at f))
        ]
      where
        at_a : first k ≡ a → get_or keys' a 0 < 32768 → k < get_or froms' a 0 → get_or keys' a 0 < key_from time K cells a k
        at_a q m f =
            two
            (λ x v o. let s : get_or keys a 0 ≤ key_from time K cells a k = rw q at (g.least k (omega arith)) in omega arith)
            (λ x v o.
            let d : get_or keys a 0 < key_from time K cells a k =
            (rw q at (g.smallest k (omega (arith, (g.own a in_cycle (omega arith)).0)))) (omega arith) (omega arith) in
            omega arith)

    -- the frame b has the key and the frame before that it had
    own_kept : (b : ℕ) → get_or keys' b 0 ≡ get_or keys b 0 → get_or froms' b 0 ≡ get_or froms b 0 → b < K → get_or keys' b 0 < 32768
        → (get_or froms' b 0 < n + 1) × (first (get_or froms' b 0) ≡ b) × (get_or keys' b 0 ≡ key_from time K cells b (get_or froms' b 0))
    own_kept b v f l m = let o = g.own b l (omega arith) in (omega (arith, o.0), ap first f ∙ o.1, v ∙ o.2 ∙ ap (key_from time K cells b) (sym f))

    -- ONE FRAME MORE IS GATHERED
    pub one_gathered : Gathers first time K cells (n + 1) keys' froms'
    one_gathered = record {
      keys_long = ap length e.keyed ∙ length-set keys a (cond (ltb key kept) key kept) ∙ g.keys_long;
      froms_long = ap length e.from ∙ length-set froms a (cond (ltb key kept) n (get_or froms a 0)) ∙ g.froms_long;
      small = each (λ b. get_or keys' b 0 ≤ 33728) (two (λ l v f. omega (arith, g.small a)) (λ l v f. omega (arith, g.small a))) (λ b q. omega (arith, there b q, g.small b));
      few = each (λ b. get_or froms' b 0 < 64) (two (λ l v f. omega arith) (λ l v f. omega (arith, g.few a))) (λ b q. omega (arith, from_there b q, g.few b));
      waits = each (λ b. b < K → 32768 ≤ get_or keys' b 0 → 32768 + (K - b) * time ≤ get_or keys' b 0)
          (λ l m. two (λ x v f. omega (arith, far (omega arith))) (λ x v f. omega (arith, g.waits a l (omega arith))))
          (λ b q l m. omega (arith, there b q, g.waits b l (omega (arith, there b q))));
      least = least_now;
      smallest = smallest_now;
      own = each (λ b. b < K → get_or keys' b 0 < 32768 → (get_or froms' b 0 < n + 1) × (first (get_or froms' b 0) ≡ b) × (get_or keys' b 0 ≡ key_from time K cells b (get_or froms' b 0)))
          (λ l m. two (λ x v f. (omega arith, ap first f ∙ sym is, v ∙ keyed ∙ ap (key_from time K cells a) (sym f))) (λ x v f. own_kept a v f l m))
          (λ b q. own_kept b (there b q) (from_there b q));
    }

-- ---- what the keys are known to be once all frames are gathered
module _ (first : ℕ → ℕ) (time K : ℕ) (cells : List ℕ) (n : ℕ) (keys froms : List ℕ) (g : Gathers first time K cells n keys froms) where
  pub gathered_keys : (cycle : ℕ) → 0 < K → K ≤ 64 → cycle ≤ 960 → Keys cycle K keys
  gathered_keys cycle some few short = record { some_frame = some; few_frames = few; short = short; small = g.small }

  -- each has the time to the end of the cycle
  pub gathered_waits : (a : ℕ) → a < K → (K - a) * time ≤ get_or keys a 0
  gathered_waits a l = elim (dec_lt (get_or keys a 0) 32768) [ yes m ↦ omega (arith, (g.own a l m).2) | no m ↦ omega (arith, g.waits a l (omega arith)) ]

-- The hold is the only number from the least hold on that fits; the frames within a range of holds
-- are counted. Assumes nothing.
use mathlib.Core.Path.{◌≡◌, refl, sym, ◌∙◌, ap, subst}
use mathlib.Core.Bool.{Bool, true, false}
use Prim.Native.Nat.{ℕ, ◌+◌, ◌-◌, ◌*◌, ◌%◌, ◌<◌, ◌≤◌}
use native.Mathlib.Nat.{mod-lt, mod-eq_of_lt, add-mod_right, mod-eq-sub-mod, mod-add-mod, div-lt_iff_lt-mul, mul-le-mul_right, mul-pos, mul_comm, add_assoc, add_comm, mul-one}
use native.Mathlib.Decide.{dec_lt}
use native.Mathlib.Omega.{arith}
use lib.Dec.{ltb}
use borrow.Author.Tests.{ltb-true, ltb-false, lt-ltb, le-ltb}
use Rattle.lists.specs.Count.{one_if, sum_below, count_below}
use Rattle.lists.proofs.Count.{sum_cong, sum_split, sum_const}
use Rattle.lists.proofs.Sums.{sum_narrow}
use Rattle.forwarding.specs.declared.Hop.{Hop}
use Rattle.forwarding.specs.Forwarding.{reference, reference_into, least_hold, gap, hold, hold_into, choices, ChoicesAreZ}
use Rattle.forwarding.specs.Hops.{HopReady}

-- D leads from the reference frame r to the frame i of a link with K frames, and is one of the K
-- numbers from Y on
pub record FitsFrom (Y K r i D : ℕ) : Type 0 where
  pub least : Y ≤ D
  pub most : D < Y + K
  pub fits : (r + D) % K ≡ i

pub mod_once : (K n : ℕ) → K ≤ n → n < K + K → n % K ≡ n - K
mod_once K n h l = mod-eq-sub-mod h ∙ mod-eq_of_lt (omega arith)

-- the two cases of a gap: on in this cycle, or in the next
gap_on : (K a i : ℕ) → a ≤ i → i < K → gap K a i ≡ i - a
unfolding gap
gap_on K a i h l = mod_once K (i + K - a) (omega arith) (omega arith) ∙ omega arith

gap_over : (K a i : ℕ) → i < a → a < K → gap K a i ≡ i + K - a
unfolding gap
gap_over K a i h l = mod-eq_of_lt (omega arith)

pub gap_lt : (K a i : ℕ) → a < K → gap K a i < K
unfolding gap
gap_lt K a i h = mod-lt (i + K - a) (omega arith)

meets_over : (K a i g : ℕ) → a + g ≡ i + K → i < K → (a + g) % K ≡ i
meets_over K a i g e l = rw e (add-mod_right i K ∙ mod-eq_of_lt l)

meets_on : (K a i g : ℕ) → a + g ≡ i → i < K → (a + g) % K ≡ i
meets_on K a i g e l = rw e (mod-eq_of_lt l)

pub gap_meets : (K a i : ℕ) → a < K → i < K → (a + gap K a i) % K ≡ i
gap_meets K a i h l =
    elim (dec_lt i a) [
      | yes b ↦ rw (gap_over K a i b h) (meets_over K a i (i + K - a) (omega arith) l)
      | no b ↦ rw (gap_on K a i (omega arith) l) (meets_on K a i (i - a) (omega arith) l)
    ]

pub gap_only : (K a i g : ℕ) → a < K → g < K → (a + g) % K ≡ i → g ≡ gap K a i
gap_only K a i g h l e =
    elim (dec_lt (a + g) K) [
      | yes b ↦ let q : a + g ≡ i = sym (mod-eq_of_lt b) ∙ e in omega (arith, gap_on K a i (omega arith) (omega arith))
      | no b ↦ let q : a + g - K ≡ i = sym (mod_once K (a + g) (omega arith) (omega arith)) ∙ e in omega (arith, gap_over K a i (omega arith) h)
    ]

-- THE HOLD FITS, AND NOTHING ELSE DOES
pub hold_fits : (Y K r i : ℕ) → i < K → FitsFrom Y K r i (hold Y K r i)
unfolding hold
hold_fits Y K r i l =
    let a : ℕ = (r + Y) % K in
    let p : a < K = mod-lt (r + Y) (omega arith) in
    record {
      least = omega arith;
      most = omega (arith, gap_lt K a i p);
      fits = ap (λ (x : ℕ). x % K) (sym (add_assoc r Y (gap K a i))) ∙ sym (mod-add-mod (r + Y) K (gap K a i)) ∙ gap_meets K a i p l;
    }

pub hold_fitting : (Y K r i D : ℕ) → FitsFrom Y K r i D → D ≡ hold Y K r i
unfolding hold
hold_fitting Y K r i D d =
    let a : ℕ = (r + Y) % K in
    let p : a < K = mod-lt (r + Y) (omega (arith, d.least, d.most)) in
    let s : r + Y + (D - Y) ≡ r + D = omega (arith, d.least) in
    omega (
      arith,
      d.least,
      gap_only K a i (D - Y) p (omega (arith, d.least, d.most)) (mod-add-mod (r + Y) K (D - Y) ∙ ap (λ (x : ℕ). x % K) s ∙ d.fits),
    )

-- the hold of a transition lies so far after the frame that the least hold leads to
pub into_gap : (g h : Hop) (k i : ℕ) → hold_into g h k i ≡ least_hold h + gap h.frames ((reference_into g h k + least_hold h) % h.frames) i
unfolding hold_into hold
into_gap g h k i = refl

-- a reference frame is a frame of the link
pub reference_lt : (k K K' : ℕ) → 0 < K → k < K' → reference k K K' < K
unfolding reference
reference_lt k K K' p h =
    let q : 0 < K' = omega arith in
    (div-lt_iff_lt-mul {k = K'} {y = K} q).1 (omega (arith, mul-le-mul_right K h, mul_comm K K', mul-pos p q))

pub reference_in : (g h : Hop) (k : ℕ) → 0 < h.frames → k < g.frames → reference_into g h k < h.frames
unfolding reference_into
reference_in g h k p l = reference_lt k h.frames g.frames p l

-- of a hop that passed its checks: the least hold is at most Z, and so within the cycle
pub least_range : (T : ℕ) (h : Hop) → HopReady T h → least_hold h ≤ h.range
unfolding least_hold
least_range T h p = p.ordered

pub least_in : (T : ℕ) (h : Hop) → HopReady T h → least_hold h ≤ h.frames
least_in T h p = omega (arith, least_range T h p, p.in_cycle)

-- the holds from the least on, counted up to Z, are no more than the frames
pub choices_range : (T : ℕ) (h : Hop) → HopReady T h → least_hold h + choices h ≡ h.range + 1
unfolding choices
choices_range T h p = omega (arith, least_range T h p)

pub choices_in : (T : ℕ) (h : Hop) → HopReady T h → choices h ≤ h.frames
unfolding least_hold
choices_in T h p = omega (arith, choices_range T h p, p.narrow)

pub choices_are_z : ChoicesAreZ
unfolding choices
choices_are_z h e p = omega (arith, e, p)

-- the hold by one remainder, from the frame f
pub gap_counted : (Y K f i : ℕ) → f < K → Y ≤ K → i < K → (i + 2 * K - (f + Y)) % K + Y ≡ hold Y K f i
unfolding hold
gap_counted Y K f i p y l =
    let a : ℕ = (f + Y) % K in
    elim (dec_lt (f + Y) K) [
      | yes b ↦
          let e : a ≡ f + Y = mod-eq_of_lt b in
          let w : i + 2 * K - (f + Y) ≡ i + K - a + K = omega (arith, e) in
          rw (w, add-mod_right) (unfold gap in (add_comm (gap K a i) Y))
      | no b ↦
          let e : a ≡ f + Y - K = mod_once K (f + Y) (omega arith) (omega arith) in
          let w : i + 2 * K - (f + Y) ≡ i + K - a = omega (arith, e) in
          rw w (unfold gap in (add_comm (gap K a i) Y))
    ]

-- of a transition, from its reference frame f and the least hold Y
module _ (g h : Hop) (k i f Y : ℕ) (e : f ≡ reference_into g h k) (y : Y ≡ least_hold h) (p : k < g.frames) (l : i < h.frames) (o : least_hold h ≤ h.frames) where
  pub from_within : (f < h.frames) × (Y ≤ h.frames)
  from_within = (rw e (reference_in g h k (omega arith) p), rw y o)

  pub hold_in : (i + 2 * h.frames - (f + Y)) % h.frames < h.frames
  hold_in = mod-lt (i + 2 * h.frames - (f + Y)) (omega arith)

  pub hold_counted : (i + 2 * h.frames - (f + Y)) % h.frames + Y ≡ hold_into g h k i
  unfolding hold_into
  hold_counted = gap_counted Y h.frames f i from_within.0 from_within.1 l ∙ rw (e, y)

-- a sum over the frames of a link by their gaps is a sum over all gaps
pub gap_sum : (K a : ℕ) (G : ℕ → ℕ) → a < K → sum_below K (λ i. G (gap K a i)) ≡ sum_below K G
gap_sum K a G h = subst (λ (n : ℕ). sum_below n (λ i. G (gap K a i)) ≡ sum_below n G) whole both
  where
    b : ℕ
    b = K - a

    whole : a + b ≡ K
    whole = omega arith

    over : sum_below a (λ i. G (gap K a i)) ≡ sum_below a (λ i. G (b + i))
    over = sum_cong a (λ i. G (gap K a i)) (λ i. G (b + i)) (λ i l. ap G (gap_over K a i l h ∙ omega arith))

    on : sum_below b (λ j. G (gap K a (a + j))) ≡ sum_below b G
    on = sum_cong b (λ j. G (gap K a (a + j))) G (λ j l. ap G (gap_on K a (a + j) (omega arith) (omega arith) ∙ omega arith))

    flipped : a + b ≡ b + a
    flipped = omega arith

    turned : sum_below (a + b) G ≡ sum_below b G + sum_below a (λ i. G (b + i))
    turned = ap (λ (n : ℕ). sum_below n G) flipped ∙ sum_split b a G

    both : sum_below (a + b) (λ i. G (gap K a i)) ≡ sum_below (a + b) G
    both = omega (arith, sum_split a b (λ i. G (gap K a i)), over, on, turned)

-- two tests that say the same are equal
same_test : (a b c d : ℕ) → (a < b → c < d) → (b ≤ a → d ≤ c) → ltb a b ≡ ltb c d
same_test a b c d f g = go (ltb a b) refl
  where
    go : (t : Bool) → ltb a b ≡ t → t ≡ ltb c d
    go true e = sym (lt-ltb c d (f (ltb-true a b e)))
    go false e = sym (le-ltb c d (g (ltb-false a b e)))

pub test_shift : (Y x W : ℕ) → ltb (Y + x) (Y + W) ≡ ltb x W
test_shift Y x W = same_test (Y + x) (Y + W) x W (λ q. omega arith) (λ q. omega arith)

-- of the frames of a link, as many have a hold below Y + W as there are holds from Y on, W
pub count_holds : (Y W K r : ℕ) → 0 < K → W ≤ K → count_below K (λ i. ltb (hold Y K r i) (Y + W)) ≡ W
unfolding hold
count_holds Y W K r p h =
    gap_sum K ((r + Y) % K) (λ x. one_if (ltb (Y + x) (Y + W))) (mod-lt (r + Y) p)
    ∙ sum_cong K (λ x. one_if (ltb (Y + x) (Y + W))) (λ x. one_if (ltb x W) * 1) (λ x m. ap one_if (test_shift Y x W) ∙ sym (mul-one (one_if (ltb x W))))
    ∙ sum_narrow K W (λ x. 1) h ∙ sum_const W 1 ∙ mul-one W

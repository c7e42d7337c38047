-- The tests of the checks, part by part, and what a test that passed shows. Assumes nothing.
use mathlib.Core.Path.{◌≡◌, refl}
use mathlib.Core.Bool.{Bool, true, false, not, ◌&&◌, ◌||◌}
use Prim.Native.Nat.{ℕ, ◌/◌, ◌%◌, ◌^◌, ◌<◌, ◌≤◌}
use native.Mathlib.Omega.{arith}
use borrow.Author.Tests.{lt-ltb, le-ltb, eq-eqb, ne_eqb, ltb-false, eqb-true, eqb-false, not-false}
use lib.Dec.{eqb, ltb}
use Rattle.lists.proofs.Count.{or_neither, both_and}
use Rattle.network.specs.Checks.{bad_count, bad_cycle, bad_frames, bad_range, bad_least, bad_closed, CountPassed, CyclePassed, FramesPassed, RangePassed, LeastPassed}

pub no_links : (n : ℕ) → n ≡ 0 → eqb n 0 ≡ bad_count n
unfolding bad_count
no_links n h = rw (eq-eqb n 0)

pub some_links : (n : ℕ) → (n ≡ 0 → ⊥) → ltb 32 n ≡ bad_count n
unfolding bad_count
some_links n h = rw (ne_eqb n 0)

pub no_ticks : (T : ℕ) → T ≡ 0 → eqb T 0 ≡ bad_cycle T
unfolding bad_cycle
no_ticks T h = rw (eq-eqb T 0)

pub some_ticks : (T : ℕ) → (T ≡ 0 → ⊥) → ltb 960 T ≡ bad_cycle T
unfolding bad_cycle
some_ticks T h = rw (ne_eqb T 0)

pub no_frames : (T K : ℕ) → K ≡ 0 → true ≡ bad_frames T K
unfolding bad_frames
no_frames T K h = rw (eq-eqb K 0)

pub many_frames : (T K : ℕ) → (K ≡ 0 → ⊥) → 64 < K → ltb 64 K ≡ bad_frames T K
unfolding bad_frames
many_frames T K h g = rw (ne_eqb K 0, lt-ltb 64 K)

pub few_frames : (T K : ℕ) → (K ≡ 0 → ⊥) → K ≤ 64 → not (eqb (T % K) 0) ≡ bad_frames T K
unfolding bad_frames
few_frames T K h g = rw (ne_eqb K 0, le-ltb 64 K)

pub no_range : (K Z : ℕ) → Z ≡ 0 → eqb Z 0 ≡ bad_range K Z
unfolding bad_range
no_range K Z h = rw (eq-eqb Z 0)

pub some_range : (K Z : ℕ) → (Z ≡ 0 → ⊥) → ltb K Z ≡ bad_range K Z
unfolding bad_range
some_range K Z h = rw (ne_eqb Z 0)

pub least_above : (K Z Y : ℕ) → Z < Y → ltb Z Y ≡ bad_least K Z Y
unfolding bad_least
least_above K Z Y h = rw (lt-ltb Z Y)

pub least_none : (K Z Y : ℕ) → Y ≤ Z → Y ≡ 0 → eqb Z K ≡ bad_least K Z Y
unfolding bad_least
least_none K Z Y h g = rw (le-ltb Z Y, eq-eqb Y 0)

pub least_some : (K Z Y : ℕ) → Y ≤ Z → (Y ≡ 0 → ⊥) → eqb Y 0 ≡ bad_least K Z Y
unfolding bad_least
least_some K Z Y h g = rw (le-ltb Z Y, ne_eqb Y 0)

pub bits_above : (K closed : ℕ) → not (eqb (closed / 2 ^ K) 0) ≡ bad_closed K closed
unfolding bad_closed
bits_above K closed = refl

pub none_above : (K closed : ℕ) → K ≤ 64 → 64 ≤ K → closed < 2 ^ 64 → ltb K 64 ≡ bad_closed K closed
unfolding bad_closed
none_above K closed h g w =
    let e : K ≡ 64 = omega arith in
    rw (e, eq-eqb (closed / 2 ^ 64) 0 (omega arith))

-- ---- what a test that passed shows
pub count_passed : CountPassed
unfolding bad_count
count_passed n e =
    let o : (eqb n 0 ≡ false) × (ltb 32 n ≡ false) = or_neither (eqb n 0) (ltb 32 n) e in
    let z : n ≡ 0 → ⊥ = eqb-false n 0 o.0 in
    (omega arith, ltb-false 32 n o.1)

pub cycle_passed : CyclePassed
unfolding bad_cycle
cycle_passed T e =
    let o : (eqb T 0 ≡ false) × (ltb 960 T ≡ false) = or_neither (eqb T 0) (ltb 960 T) e in
    let z : T ≡ 0 → ⊥ = eqb-false T 0 o.0 in
    (omega arith, ltb-false 960 T o.1)

pub frames_passed : FramesPassed
unfolding bad_frames
frames_passed T K e =
    let o : ((eqb K 0 || ltb 64 K) ≡ false) × (not (eqb (T % K) 0) ≡ false) = or_neither (eqb K 0 || ltb 64 K) (not (eqb (T % K) 0)) e in
    let p : (eqb K 0 ≡ false) × (ltb 64 K ≡ false) = or_neither (eqb K 0) (ltb 64 K) o.0 in
    let z : K ≡ 0 → ⊥ = eqb-false K 0 p.0 in
    (omega arith, ltb-false 64 K p.1, eqb-true (T % K) 0 (not-false (eqb (T % K) 0) o.1))

pub range_passed : RangePassed
unfolding bad_range
range_passed K Z e =
    let o : (eqb Z 0 ≡ false) × (ltb K Z ≡ false) = or_neither (eqb Z 0) (ltb K Z) e in
    let z : Z ≡ 0 → ⊥ = eqb-false Z 0 o.0 in
    (omega arith, ltb-false K Z o.1)

pub least_passed : LeastPassed
unfolding bad_least
least_passed K Z Y e =
    let o : (ltb Z Y ≡ false) × ((eqb Y 0 && eqb Z K) ≡ false) = or_neither (ltb Z Y) (eqb Y 0 && eqb Z K) e in
    (ltb-false Z Y o.0, λ y z. not_both (both_and (eqb Y 0) (eqb Z K) (eq-eqb Y 0 y) (eq-eqb Z K z)) o.1)
  where
    not_both : {b : Bool} → b ≡ true → b ≡ false → ⊥
    not_both p q = let z : ◌≡◌ {A = ℕ} 0 1 = cc in omega arith

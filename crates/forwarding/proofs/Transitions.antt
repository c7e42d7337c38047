-- Laws of a single transition: its hold, its delay, its colours, and where it is allowed.
-- Assumes nothing.
use mathlib.Core.Path.{◌≡◌, refl, sym, ◌∙◌, ap}
use mathlib.Core.Bool.{Bool, true, false, ◌&&◌}
use Prim.Native.Nat.{ℕ, zero, suc, ◌+◌, ◌-◌, ◌*◌, ◌/◌, ◌%◌, ◌<◌, ◌≤◌}
use native.Mathlib.Nat.{add-zero, add-mod_right, mod-eq_of_lt, le_trans, div-le_of_le-mul, mul-le-mul_left, mul-le-mul_right, mul_comm, mul_assoc, mul-div_cancel_left, div-add-mod', le_of_eq}
use native.Mathlib.Omega.{arith}
use lib.Dec.{leb, ltb}
use borrow.Author.Tests.{leb-true, leb-false, le-leb, lt-ltb, le-ltb}
use Rattle.lists.specs.Count.{one_if, sum_below, count_below}
use Rattle.lists.proofs.Count.{sum_cong, sum_le, one_le, and_both, both_and}
use Rattle.lists.proofs.Sums.{sum_times}
use Rattle.forwarding.specs.declared.Hop.{Hop}
use Rattle.forwarding.specs.Forwarding.{Spot, reference_into, least_hold, is_free, MayTurn, may_turn, turn_choices, may_hold, hold_into, is_allowed, HoldOnly, TwoFit, AllowedWhere, choices, delay, frame_time, IsDelay}
use Rattle.forwarding.specs.Hops.{HopReady}
use Rattle.forwarding.specs.Route.{nodes, spot_at}
use Rattle.forwarding.proofs.Spots.{sum_spots}
use Rattle.forwarding.proofs.Holds.{hold_fits, hold_fitting, choices_range, choices_in, count_holds}

-- where K divides T, K frames are a cycle
pub cycle_frames : (T K : ℕ) → T % K ≡ 0 → frame_time T K * K ≡ T
unfolding frame_time
cycle_frames T K e = omega (arith, div-add-mod' T K, e)

-- and a delay is the hold times a frame's time
pub delay_frames : (T K D : ℕ) → 0 < K → T % K ≡ 0 → delay T K D ≡ D * frame_time T K
unfolding delay frame_time
delay_frames T K D p e =
    let q : ℕ = T / K in
    let t : T ≡ K * q = sym (cycle_frames T K e) ∙ mul_comm q K in
    ap (λ (x : ℕ). x / K) (ap (λ (x : ℕ). D * x) t ∙ sym (mul_assoc D K q) ∙ ap (λ (x : ℕ). x * q) (mul_comm D K) ∙ mul_assoc K D q)
    ∙ mul-div_cancel_left (D * q) p

pub delayed : (D time : ℕ) → IsDelay D time (D * time)
delayed D time = record { product = refl; ruled = λ T K p e q. ap (λ (x : ℕ). D * x) q ∙ sym (delay_frames T K D p e) }

-- no transition takes longer than a cycle
pub delay_le : (T K D : ℕ) → D ≤ K → delay T K D ≤ T
unfolding delay
delay_le T K D h = div-le_of_le-mul K (mul-le-mul_right T h)

-- at most Z, and below Z + 1
leb_ltb : (a b : ℕ) → leb a b ≡ ltb a (b + 1)
leb_ltb a b = go (leb a b) refl
  where
    go : (t : Bool) → leb a b ≡ t → t ≡ ltb a (b + 1)
    go true e = sym (lt-ltb a (b + 1) (omega (arith, leb-true a b e)))
    go false e = sym (le-ltb a (b + 1) (omega (arith, leb-false a b e)))

pub may_hold_lem : (h : Hop) (D : ℕ) → may_hold h D ≡ true → D ≤ h.range
unfolding may_hold
may_hold_lem h D e = leb-true D h.range e

pub hold_may : (h : Hop) (D : ℕ) → D ≤ h.range → may_hold h D ≡ true
unfolding may_hold
hold_may h D l = le-leb D h.range l

-- a hold within the range is below the least hold and the number of choices together
pub may_choice : (T : ℕ) (h : Hop) (D : ℕ) → HopReady T h → may_hold h D ≡ ltb D (least_hold h + choices h)
unfolding may_hold
may_choice T h D p = rw (choices_range T h p) (leb_ltb D h.range)

-- THE HOLD IS THE ONE NUMBER FROM Y UP TO Z THAT FITS, if there is one
pub hold_only : HoldOnly
unfolding least_hold
hold_only T h r i p l D = (
  λ d. (
    hold_fitting (least_hold h) h.frames r i D (record { least = d.least; most = omega (arith, d.most, p.narrow); fits = d.fits }),
    hold_may h D d.most,
  ),
  λ (e, m). let f = hold_fits (least_hold h) h.frames r i l in rw e (record { least = f.least; most = rw e at (may_hold_lem h D m); fits = f.fits }),
)

-- WITH Y 0 AND Z EQUAL TO K both 0 and K fit
pub two_fit : TwoFit
two_fit h r l y z = (
  record { least = omega (arith, y); most = omega arith; fits = rw add-zero (mod-eq_of_lt l) },
  record { least = omega (arith, y); most = omega (arith, z); fits = add-mod_right r h.frames ∙ mod-eq_of_lt l },
)

-- the test of a change of colour
pub may_turn_lem : (h : Hop) (c d : ℕ) → may_turn h c d ≡ true → MayTurn h c d
unfolding may_turn
may_turn_lem h c d e = let b = and_both (leb c (d + h.turn)) (leb d (c + h.turn)) e in (leb-true c (d + h.turn) b.0, leb-true d (c + h.turn) b.1)

pub turn_may : (h : Hop) (c d : ℕ) → MayTurn h c d → may_turn h c d ≡ true
unfolding may_turn
turn_may h c d m = both_and (leb c (d + h.turn)) (leb d (c + h.turn)) (le-leb c (d + h.turn) m.0) (le-leb d (c + h.turn) m.1)

-- what an allowed transition keeps
pub record Allows (g h : Hop) (x y : Spot) : Type 0 where
  pub holds : may_hold h (hold_into g h x.frame y.frame) ≡ true
  pub turns : may_turn h x.colour y.colour ≡ true
  pub into_free : is_free h y ≡ true

pub allows : (g h : Hop) (x y : Spot) → is_allowed g h x y ≡ true → Allows g h x y
allows g h x y a =
    let b = and_both (may_hold h (hold_into g h x.frame y.frame)) (may_turn h x.colour y.colour && is_free h y) a in
    let c = and_both (may_turn h x.colour y.colour) (is_free h y) b.1 in
    record { holds = b.0; turns = c.0; into_free = c.1 }

pub allowed : (g h : Hop) (x y : Spot) → Allows g h x y → is_allowed g h x y ≡ true
allowed g h x y a =
    both_and (may_hold h (hold_into g h x.frame y.frame)) (may_turn h x.colour y.colour && is_free h y) a.holds
    (both_and (may_turn h x.colour y.colour) (is_free h y) a.turns a.into_free)

-- ALLOWED EXACTLY WHERE A NUMBER FITS, the colour may change so, and the spot is free
pub allowed_where : AllowedWhere
unfolding hold_into
allowed_where T g h x y p l = (
  λ a. let b = allows g h x y a in (
    (hold_into g h x.frame y.frame, (hold_only T h (reference_into g h x.frame) y.frame p l (hold_into g h x.frame y.frame)).1 (refl, b.holds)),
    may_turn_lem h x.colour y.colour b.turns,
    b.into_free,
  ),
  λ ((D, d), t, f).
      let e = (hold_only T h (reference_into g h x.frame) y.frame p l D).0 d in
      allowed g h x y (record { holds = rw e.0 at e.1; turns = turn_may h x.colour y.colour t; into_free = f }),
)

-- an allowed transition takes a cycle at most
pub allowed_cap : (T : ℕ) (g h : Hop) (x y : Spot) → HopReady T h → is_allowed g h x y ≡ true → delay T h.frames (hold_into g h x.frame y.frame) ≤ T
allowed_cap T g h x y p a =
    delay_le T h.frames (hold_into g h x.frame y.frame)
    (le_trans (may_hold_lem h (hold_into g h x.frame y.frame) (allows g h x y a).holds) p.in_cycle)

-- ---- a spot leads to at most 2R + 1 colours, and to as many frames as there are holds
near_few : (h : Hop) (c n : ℕ) → (count_below n (λ d. may_turn h c d) ≤ n + h.turn - c) × (count_below n (λ d. may_turn h c d) ≤ 2 * h.turn + 1)
near_few h c zero = (omega arith, omega arith)
near_few h c (suc n) = go (may_turn h c n) refl (near_few h c n)
  where
    go : (t : Bool) → may_turn h c n ≡ t → (count_below n (λ d. may_turn h c d) ≤ n + h.turn - c) × (count_below n (λ d. may_turn h c d) ≤ 2 * h.turn + 1)
        → (count_below n (λ d. may_turn h c d) + one_if (may_turn h c n) ≤ suc n + h.turn - c) × (count_below n (λ d. may_turn h c d) + one_if (may_turn h c n) ≤ 2 * h.turn + 1)
    go true e i = let m = may_turn_lem h c n e in rw e (omega (arith, i.0, m.0, m.1), omega (arith, i.0, m.0, m.1))
    go false e i = rw e (omega (arith, i.0), omega (arith, i.1))

pub turns_few : (h : Hop) (c n : ℕ) → count_below n (λ d. may_turn h c d) ≤ turn_choices h
unfolding turn_choices
turns_few h c n = (near_few h c n).1

holds_few : (T : ℕ) (g h : Hop) (k : ℕ) → HopReady T h → count_below h.frames (λ i. may_hold h (hold_into g h k i)) ≡ choices h
holds_few T g h k p =
    sum_cong h.frames (λ i. one_if (may_hold h (hold_into g h k i))) (λ i. one_if (ltb (hold_into g h k i) (least_hold h + choices h))) (λ i l. ap one_if (may_choice T h (hold_into g h k i) p))
    ∙ (unfold hold_into in count_holds (least_hold h) (choices h) h.frames (reference_into g h k) p.some_frame (choices_in T h p))

three_ones : (a b c : Bool) → one_if (a && (b && c)) ≤ one_if b * one_if a
three_ones true true c = omega (arith, one_le c)
three_ones true false c = omega arith
three_ones false b c = omega arith

-- and to at most as many spots as there are holds, times 2R + 1
pub allowed_narrow : (T : ℕ) (g h : Hop) (x : Spot) → HopReady T h → count_below (nodes h) (λ n. is_allowed g h x (spot_at h n)) ≤ choices h * turn_choices h
allowed_narrow T g h x p =
    le_trans
    (le_of_eq (sum_spots h (λ y. one_if (is_allowed g h x y))))
    (le_trans
    (sum_le h.frames (λ i. sum_below h.colours (λ c. one_if (is_allowed g h x (record { frame = i; colour = c })))) (λ i. one_if (may_hold h (hold_into g h x.frame i)) * turn_choices h) by_frame)
    (le_of_eq (sum_times h.frames (turn_choices h) (λ i. one_if (may_hold h (hold_into g h x.frame i))) ∙ ap (λ (n : ℕ). n * turn_choices h) (holds_few T g h x.frame p))))
  where
    by_frame : (i : ℕ) → i < h.frames → sum_below h.colours (λ c. one_if (is_allowed g h x (record { frame = i; colour = c }))) ≤ one_if (may_hold h (hold_into g h x.frame i)) * turn_choices h
    by_frame i l =
        le_trans
        (sum_le h.colours (λ c. one_if (is_allowed g h x (record { frame = i; colour = c }))) (λ c. one_if (may_turn h x.colour c) * one_if (may_hold h (hold_into g h x.frame i)))
        (λ c m. three_ones (may_hold h (hold_into g h x.frame i)) (may_turn h x.colour c) (is_free h (record { frame = i; colour = c }))))
        (le_trans
        (le_of_eq (sum_times h.colours (one_if (may_hold h (hold_into g h x.frame i))) (λ c. one_if (may_turn h x.colour c)) ∙ mul_comm (count_below h.colours (λ c. may_turn h x.colour c)) (one_if (may_hold h (hold_into g h x.frame i)))))
        (mul-le-mul_left (one_if (may_hold h (hold_into g h x.frame i))) (turns_few h x.colour h.colours)))

-- The cycles of a schedule: the frame of each hop lies in its cycle, after the one before it, and
-- cycles rise by one at most (W-202). Assumes nothing.
use mathlib.Core.Path.{◌≡◌, refl, sym, ◌∙◌, ap}
use mathlib.Core.Bool.{Bool, true, false, cond}
use mathlib.Core.List.{List, [], ◌∷◌}
use Prim.Native.Nat.{ℕ, zero, suc, ◌+◌, ◌-◌, ◌*◌, ◌%◌, ◌<◌, ◌≤◌}
use native.Mathlib.Nat.{add-mul, mul_assoc, mul_comm, mod-eq_of_lt, le_of_suc-le-suc, not-suc-le-zero}
use native.Mathlib.Decide.{dec_lt}
use native.Mathlib.Omega.{arith}
use lib.Dec.{ltb}
use lib.ListN.{length, get_or}
use borrow.Author.Tests.{lt-ltb, le-ltb}
use Rattle.forwarding.specs.declared.Hop.{Hop}
use Rattle.forwarding.specs.Forwarding.{Spot, least_hold, reference_into, hold_into, is_allowed, frame_time}
use Rattle.forwarding.specs.Hops.{no_hop, HopReady, AllReady}
use Rattle.forwarding.specs.Schedule.{frames_of, GoesOn, IsSchedule}
use Rattle.forwarding.specs.Cycles.{next_cycle, NoneStays, onward_cycles, schedule_cycles, CyclePerHop, LaterHop, Keeps, SchedulesKeep, Lies, CyclesLie, begins_at, Follows, CyclesFollow, NotBelow, CyclesNeverFall, CyclesBounded}
use Rattle.forwarding.proofs.Holds.{mod_once, hold_fits, reference_in}
use Rattle.forwarding.proofs.Transitions.{may_hold_lem, allows, hold_only, cycle_frames}
use Rattle.forwarding.proofs.Rates.{next_mul, turns_round}

-- ---- one transition
module _ (g h : Hop) (k i c : ℕ) where
  next_is : next_cycle g h k i c ≡ cond (ltb (reference_into g h k + hold_into g h k i) h.frames) c (c + 1)
  unfolding next_cycle
  next_is = refl

  pub same_cycle : (x : ℕ) → x ≡ reference_into g h k + hold_into g h k i → x < h.frames → c ≡ next_cycle g h k i c
  same_cycle x e l = sym (next_is ∙ rw (lt-ltb (reference_into g h k + hold_into g h k i) h.frames (rw (← e) l)))

  pub cycle_after : (x : ℕ) → x ≡ reference_into g h k + hold_into g h k i → h.frames ≤ x → c + 1 ≡ next_cycle g h k i c
  cycle_after x e l = sym (next_is ∙ rw (le-ltb (reference_into g h k + hold_into g h k i) h.frames (rw (← e) l)))

  -- the same cycle or the one after it
  pub next_or_same : (c ≤ next_cycle g h k i c) × (next_cycle g h k i c ≤ c + 1)
  next_or_same = rw next_is (go (ltb (reference_into g h k + hold_into g h k i) h.frames))
    where
      go : (b : Bool) → (c ≤ cond b c (c + 1)) × (cond b c (c + 1) ≤ c + 1)
      go true = (omega arith, omega arith)
      go false = (omega arith, omega arith)

  module _ (p : k < g.frames) (l : i < h.frames) where
    from_in : reference_into g h k < h.frames
    from_in = reference_in g h k (omega arith) p

    -- the reference frame and the hold together are small numbers
    pub reaches : least_hold h ≤ h.frames → reference_into g h k + hold_into g h k i < 3 * h.frames
    unfolding hold_into
    reaches o = omega (arith, from_in, (hold_fits (least_hold h) h.frames (reference_into g h k) i l).most, o)

    meets : (reference_into g h k + hold_into g h k i) % h.frames ≡ i
    unfolding hold_into
    meets = (hold_fits (least_hold h) h.frames (reference_into g h k) i l).fits

    -- a hold of at most a cycle
    lies : hold_into g h k i ≤ h.frames → Lies g h k i c (next_cycle g h k i c)
    lies few =
        let K : ℕ = h.frames in
        let x : ℕ = reference_into g h k + hold_into g h k i in
        let r : reference_into g h k < K = from_in in
        elim (dec_lt x K) [
          | yes b ↦ let e : x ≡ i = sym (mod-eq_of_lt b) ∙ meets in rw (← same_cycle x refl b, e)
          | no b ↦
              let e : x - K ≡ i = sym (mod_once K x (omega arith) (omega arith)) ∙ meets in
              rw (← cycle_after x refl (omega arith)) (omega (arith, next_mul c K, e))
        ]

-- a hold of 0 stays in the cycle
pub none_stays : NoneStays
none_stays g h k i c some l e = sym (same_cycle g h k i c (reference_into g h k + hold_into g h k i) refl (omega (arith, e, reference_in g h k some l)))

-- ---- the cycles of a schedule
-- a frame of cycle c is c cycles and itself
begins_split : (T : ℕ) (h : Hop) (c i : ℕ) → HopReady T h → begins_at T h c i ≡ c * T + i * frame_time T h.frames
begins_split T h c i p =
    add-mul (c * h.frames) i (frame_time T h.frames)
    ∙ ap (λ (x : ℕ). x + i * frame_time T h.frames)
    (mul_assoc c h.frames (frame_time T h.frames) ∙ ap (λ (x : ℕ). c * x) (mul_comm h.frames (frame_time T h.frames) ∙ cycle_frames T h.frames p.divides))

-- a frame that lies in its cycle comes its hold after the one before
follows : (T : ℕ) (g h : Hop) (k i c d : ℕ) → HopReady T g → HopReady T h → Lies g h k i c d → Follows T g h k i c d
follows T g h k i c d pg ph e =
    let x : ℕ = reference_into g h k + hold_into g h k i in
    let after : d * h.frames + (i + 1) ≡ c * h.frames + (x + 1) = omega (arith, e) in
    let there : begins_at T h d (i + 1) ≡ begins_at T h c (x + 1) = ap (λ (y : ℕ). y * frame_time T h.frames) after in
    omega (arith, there, begins_split T g c (k + 1) pg, begins_split T h c (x + 1) ph, (turns_round T g h k pg ph i).1)

-- something holds of every hop: of ready ones that they are, and of any nothing
abbrev Every : (Hop → Type 0) → List Hop → Type 0
Every Q [] = Unit {0}
Every Q (h ∷ hs) = Q h × Every Q hs

every_ready : (T : ℕ) (hops : List Hop) → AllReady T hops → Every (HopReady T) hops
every_ready T [] ps = tt
every_ready T (h ∷ hs) ps = (ps.0, every_ready T hs ps.1)

every_hop : (hops : List Hop) → Every (λ h. Unit {0}) hops
every_hop [] = tt
every_hop (h ∷ hs) = (tt, every_hop hs)

-- P of every transition whose two hops have Q, with their cycles, gives P of every later hop
module _ (Q : Hop → Type 0) (P : Hop → Hop → ℕ → ℕ → ℕ → ℕ → Type 0) where
  abbrev Each : Type 0
  Each = (g h : Hop) (x y : Spot) (c : ℕ) → Q g → Q h → x.frame < g.frames → y.frame < h.frames → is_allowed g h x y ≡ true → P g h x.frame y.frame c (next_cycle g h x.frame y.frame c)

  on_each : Each → (g : Hop) (x : Spot) (c : ℕ) (hs : List Hop) (ys : List Spot) → Q g → Every Q hs → x.frame < g.frames → GoesOn g x hs ys → (j : ℕ) → j < length hs
      → P (get_or (g ∷ hs) j no_hop) (get_or hs j no_hop) (get_or (x.frame ∷ frames_of ys) j 0) (get_or (frames_of ys) j 0) (get_or (c ∷ onward_cycles g x.frame c hs (frames_of ys)) j 0) (get_or (onward_cycles g x.frame c hs (frames_of ys)) j 0)
  on_each f g x c [] ys pg ps l o j q = absurd (not-suc-le-zero q)
  on_each f g x c (h ∷ hs) [] pg ps l o j q = absurd o
  on_each f g x c (h ∷ hs) (y ∷ ys) pg ps l o zero q = f g h x y c pg ps.0 l o.0.0 o.1
  on_each f g x c (h ∷ hs) (y ∷ ys) pg ps l o (suc j) q = on_each f h y (next_cycle g h x.frame y.frame c) hs ys ps.0 ps.1 o.0.0 o.2 j (le_of_suc-le-suc q)

  later_each : Each → (hops : List Hop) (xs : List Spot) → Every Q hops → IsSchedule hops xs → LaterHop P hops (frames_of xs) (schedule_cycles hops (frames_of xs))
  later_each f [] xs ps s j q = absurd s
  later_each f (h ∷ hs) [] ps s j q = absurd s
  later_each f (h ∷ hs) (x ∷ ys) ps s j q = on_each f h x 0 hs ys ps.0 ps.1 s.0.0 s.2 j (le_of_suc-le-suc q)

-- an allowed transition
allowed_keeps : (T : ℕ) → Each (HopReady T) Keeps
unfolding hold_into
allowed_keeps T g h x y c pg ph p l a =
    (hold_only T h (reference_into g h x.frame) y.frame ph l (hold_into g h x.frame y.frame)).1 (refl, (allows g h x y a).holds)

-- EVERY SCHEDULE KEEPS Y, at every later hop
pub schedules_keep : SchedulesKeep
schedules_keep T hops fs ps = later_each (HopReady T) Keeps (allowed_keeps T) hops fs (every_ready T hops ps)

allowed_lies : (T : ℕ) → Each (HopReady T) Lies
allowed_lies T g h x y c pg ph p l a =
    let D : ℕ = hold_into g h x.frame y.frame in
    let few : D ≤ h.range = may_hold_lem h D (allows g h x y a).holds in
    lies g h x.frame y.frame c p l (omega (arith, few, ph.in_cycle))

-- THE CYCLE IS THE ONE IN WHICH THE FRAME LIES
pub cycles_lie : CyclesLie
cycles_lie T hops fs ps = later_each (HopReady T) Lies (allowed_lies T) hops fs (every_ready T hops ps)

-- EACH FRAME IN ITS CYCLE COMES ITS HOLD AFTER THE ONE BEFORE
pub cycles_follow : CyclesFollow
cycles_follow T hops fs ps =
    later_each (HopReady T) (Follows T) (λ g h x y c pg ph p l a. follows T g h x.frame y.frame c (next_cycle g h x.frame y.frame c) pg ph (allowed_lies T g h x y c pg ph p l a)) hops fs (every_ready T hops ps)

-- CYCLES NEVER FALL along a route
pub cycles_never_fall : CyclesNeverFall
cycles_never_fall hops fs = later_each (λ h. Unit {0}) NotBelow (λ g h x y c pg ph p l a. (next_or_same g h x.frame y.frame c).0) hops fs (every_hop hops)

-- ---- how many they are, and how large
on_many : (g : Hop) (x : Spot) (c : ℕ) (hs : List Hop) (ys : List Spot) → GoesOn g x hs ys → length (onward_cycles g x.frame c hs (frames_of ys)) ≡ length hs
on_many g x c [] ys o = refl
on_many g x c (h ∷ hs) [] o = absurd o
on_many g x c (h ∷ hs) (y ∷ ys) o = ap suc (on_many h y (next_cycle g h x.frame y.frame c) hs ys o.2)

-- "a cycle number per hop"
pub cycle_per_hop : CyclePerHop
cycle_per_hop [] fs s = absurd s
cycle_per_hop (h ∷ hs) [] s = absurd s
cycle_per_hop (h ∷ hs) (k ∷ is) s = ap suc (on_many h k 0 hs is s.2)

on_bounded : (g : Hop) (k c : ℕ) (hs : List Hop) (is : List ℕ) (j : ℕ) → get_or (onward_cycles g k c hs is) j 0 ≤ c + suc j
on_bounded g k c [] is j = omega arith
on_bounded g k c (h ∷ hs) [] j = omega arith
on_bounded g k c (h ∷ hs) (i ∷ is) zero = omega (arith, (next_or_same g h k i c).1)
on_bounded g k c (h ∷ hs) (i ∷ is) (suc j) = omega (arith, (next_or_same g h k i c).1, on_bounded h i (next_cycle g h k i c) hs is j)

-- AND HOP j'S IS AT MOST j
pub cycles_bounded : CyclesBounded
cycles_bounded [] fs j = omega arith
cycles_bounded (h ∷ hs) [] j = omega arith
cycles_bounded (h ∷ hs) (k ∷ is) zero = omega arith
cycles_bounded (h ∷ hs) (k ∷ is) (suc j) = omega (arith, on_bounded h k 0 hs is j)

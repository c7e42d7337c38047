-- The list of all schedules has each schedule, nothing else, and nothing twice; and its length, hop
-- by hop. Assumes nothing.
use mathlib.Core.Path.{◌≡◌, refl, sym, ◌∙◌, ap, subst}
use mathlib.Core.Bool.{Bool, true}
use mathlib.Core.List.Memᴰ
use mathlib.Core.List.{List, [], ◌∷◌, map, Memᴰ}
use Prim.Native.Nat.{ℕ, ◌+◌, ◌*◌, ◌^◌, ◌≤◌}
use native.Mathlib.Nat.{le_trans, zero-add, mod-lt, mul-one, one-mul, mul-le-mul, pow-zero, pow-suc, pow-le-pow_right}
use native.Mathlib.Omega.{arith}
use lib.ListN.{length}
use Rattle.lists.specs.Count.{one_if, sum_below}
use Rattle.lists.specs.Once.{EachOnce}
use Rattle.lists.proofs.Count.{sum_cong, sum_const, count_all}
use Rattle.lists.proofs.Sums.{sum_times, sum_most}
use Rattle.lists.proofs.Once.{same_members, empty_none, none_empty}
use Rattle.words.specs.Word.{bit_of, word_of}
use Rattle.trellis.specs.Paths.{list_if, gather}
use Rattle.trellis.proofs.Paths.{headed_in, headed_of, headed_once, headed_length}
use Rattle.forwarding.specs.declared.Hop.{Hop}
use Rattle.forwarding.specs.Forwarding.{Spot, IsOn, reference, reference_into, least_hold, gap, hold, is_free, may_turn, may_hold, hold_into, is_allowed, choices}
use Rattle.forwarding.specs.Hops.{HopReady, AllReady}
use Rattle.forwarding.specs.Schedule.{GoesOn, IsSchedule, OneColour}
use Rattle.forwarding.specs.Route.{nodes, node_at, spot_at, transitions}
use Rattle.forwarding.specs.QuestionFour.{starred}
use Rattle.forwarding.specs.Ways.{ways_on, schedules, SchedulesListed, SchedulesOnce, route_ways, WaysOnly, WaysBlocked, EveryFrameFree, later_choices, WaysOpen, WaysMost, StarredWays}
use Rattle.forwarding.proofs.Spots.{spot_back, node_back, node_in_lem, spot_on}
use Rattle.forwarding.proofs.Transitions.{turn_may}
use Rattle.forwarding.proofs.Windows.{first_frame, at, window_sum}
use Rattle.forwarding.proofs.Counted.{transitions_counted}
use Rattle.forwarding.proofs.Answers.{blocked_none, none_blocked}

-- ---- the ways on from a spot are the lists that go on from it, each once
on_once : (g : Hop) (x : Spot) (hs : List Hop) → EachOnce (ways_on g x hs)
on_once g x [] = (λ m. Memᴰ.not-nil m, tt)
on_once g x (h ∷ hs) = headed_once (nodes h) (spot_at h) (node_at h) (node_back h) (λ i. is_allowed g h x (spot_at h i)) (λ i. ways_on h (spot_at h i) hs) (λ i. on_once h (spot_at h i) hs)

-- the lists that begin with a spot that passes p and go on from it
abbrev begun : Hop → (Spot → Bool) → List Hop → List (List Spot)
begun h p hs = gather (nodes h) (λ i. list_if (p (spot_at h i)) (map (λ ys. spot_at h i ∷ ys) (ways_on h (spot_at h i) hs)))

begun_in : (h : Hop) (p : Spot → Bool) (hs : List Hop) (y : Spot) (ys : List Spot) → IsOn h y → p y ≡ true → Memᴰ ys (ways_on h y hs) → Memᴰ (y ∷ ys) (begun h p hs)
begun_in h p hs y ys o e m =
    let s : spot_at h (node_at h y) ≡ y = spot_back h y o.1 in
    subst (λ (z : Spot). Memᴰ (z ∷ ys) (begun h p hs)) s
    (headed_in (nodes h) (spot_at h) (node_at h) (node_back h) (λ i. p (spot_at h i)) (λ i. ways_on h (spot_at h i) hs) (node_at h y) ys (node_in_lem h y o) (ap p s ∙ e)
    (subst (λ (z : Spot). Memᴰ ys (ways_on h z hs)) (sym s) m))

listed_on : (g : Hop) (x : Spot) (hs : List Hop) (ys : List Spot) → Memᴰ ys (ways_on g x hs) → GoesOn g x hs ys
listed_on g x [] ys m = rw (Memᴰ.eq_of_singleton m) tt
listed_on g x (h ∷ hs) ys m =
    let b = headed_of (nodes h) (spot_at h) (node_at h) (node_back h) (λ i. is_allowed g h x (spot_at h i)) (λ i. ways_on h (spot_at h i) hs) ys m in
    rw (← b.is) (spot_on h b.node b.below, b.passes, listed_on h (spot_at h b.node) hs b.later b.goes_on_lem)

on_listed : (g : Hop) (x : Spot) (hs : List Hop) (ys : List Spot) → GoesOn g x hs ys → Memᴰ ys (ways_on g x hs)
on_listed g x [] [] o = Memᴰ.head refl
on_listed g x [] (y ∷ ys) o = absurd o
on_listed g x (h ∷ hs) [] o = absurd o
on_listed g x (h ∷ hs) (y ∷ ys) o = begun_in h (is_allowed g h x) hs y ys o.0 o.1 (on_listed h y hs ys o.2)

-- A LIST OF SPOTS IS A MEMBER EXACTLY WHEN IT IS A SCHEDULE
listed_schedule : (hops : List Hop) (xs : List Spot) → Memᴰ xs (schedules hops) → IsSchedule hops xs
unfolding schedules
listed_schedule [] xs m = absurd (Memᴰ.not-nil m)
listed_schedule (h ∷ hs) xs m =
    let b = headed_of (nodes h) (spot_at h) (node_at h) (node_back h) (λ i. is_free h (spot_at h i)) (λ i. ways_on h (spot_at h i) hs) xs m in
    rw (← b.is) (spot_on h b.node b.below, b.passes, listed_on h (spot_at h b.node) hs b.later b.goes_on_lem)

schedule_listed : (hops : List Hop) (xs : List Spot) → IsSchedule hops xs → Memᴰ xs (schedules hops)
unfolding schedules
schedule_listed [] xs s = absurd s
schedule_listed (h ∷ hs) [] s = absurd s
schedule_listed (h ∷ hs) (x ∷ ys) s = begun_in h (is_free h) hs x ys s.0 s.1 (on_listed h x hs ys s.2)

pub schedules_listed : SchedulesListed
schedules_listed hops xs = (listed_schedule hops xs, schedule_listed hops xs)

-- EACH ONCE
pub schedules_once : SchedulesOnce
unfolding schedules
schedules_once [] = tt
schedules_once (h ∷ hs) = headed_once (nodes h) (spot_at h) (node_at h) (node_back h) (λ i. is_free h (spot_at h i)) (λ i. ways_on h (spot_at h i) hs) (λ i. on_once h (spot_at h i) hs)

-- THE NUMBER IS THE LENGTH OF EVERY SUCH LIST
pub ways_only : WaysOnly
unfolding route_ways
ways_only hops list once each =
    same_members list (schedules hops) once (schedules_once hops) (λ xs m. schedule_listed hops xs ((each xs).0 m)) (λ xs m. (each xs).1 (listed_schedule hops xs m))

-- ---- 0 EXACTLY WHEN THE ANSWER IS BLOCKED
pub ways_blocked : WaysBlocked
unfolding route_ways
ways_blocked T hops = (
  λ e. (
    transitions T hops,
    none_blocked T hops (transitions T hops) (λ xs s. empty_none (schedules hops) e xs (schedule_listed hops xs s)) (transitions_counted T hops),
  ),
  λ (n, e). none_empty (schedules hops) (λ xs m. blocked_none T hops n e xs (listed_schedule hops xs m)),
)

-- ---- HOP BY HOP
pub on_ways : (g : Hop) (x : Spot) (h : Hop) (hs : List Hop)
    → length (ways_on g x (h ∷ hs)) ≡ sum_below (nodes h) (λ i. one_if (is_allowed g h x (spot_at h i)) * length (ways_on h (spot_at h i) hs))
on_ways g x h hs = headed_length (nodes h) (spot_at h) (node_at h) (node_back h) (λ i. is_allowed g h x (spot_at h i)) (λ i. ways_on h (spot_at h i) hs)

-- by colours: the window of frames of the hop entered, for each colour that x leads to
pub on_windows : (T : ℕ) (g : Hop) (x : Spot) (h : Hop) (hs : List Hop) → HopReady T h
    → length (ways_on g x (h ∷ hs))
    ≡ sum_below h.colours (λ c. sum_below (choices h) (λ d. one_if (is_free h (at h (first_frame g h x.frame + d) c)) * length (ways_on h (at h (first_frame g h x.frame + d) c) hs)) * one_if (may_turn h x.colour c))
on_windows T g x h hs p = on_ways g x h hs ∙ window_sum T g h x p (λ y. length (ways_on h y hs))

pub all_ways : (h : Hop) (hs : List Hop) → route_ways (h ∷ hs) ≡ sum_below (nodes h) (λ k. one_if (is_free h (spot_at h k)) * length (ways_on h (spot_at h k) hs))
unfolding route_ways schedules
all_ways h hs = headed_length (nodes h) (spot_at h) (node_at h) (node_back h) (λ i. is_free h (spot_at h i)) (λ i. ways_on h (spot_at h i) hs)

-- ---- THE PRODUCT, where all frames are free and each link has one colour
only_colour : (T : ℕ) (h : Hop) (c : ℕ) → HopReady T h → h.colours ≡ 1 → c ≡ 0 → may_turn h c 0 ≡ true
only_colour T h c p e z = turn_may h c 0 (omega (arith, z), omega arith)

open_stage : (T : ℕ) (g h : Hop) (x : Spot) (w : ℕ) → HopReady T h → h.colours ≡ 1 → x.colour ≡ 0 → ((y : Spot) → IsOn h y → is_free h y ≡ true)
    → sum_below (nodes h) (λ i. one_if (is_allowed g h x (spot_at h i)) * w) ≡ choices h * w
open_stage T g h x w p one z o =
    window_sum T g h x p (λ y. w)
    ∙ ap (λ (n : ℕ). sum_below n (λ c. within c * one_if (may_turn h x.colour c))) one
    ∙ zero-add (within 0 * one_if (may_turn h x.colour 0))
    ∙ ap (λ (b : Bool). within 0 * one_if b) (only_colour T h x.colour p one z)
    ∙ mul-one (within 0)
    ∙ sum_cong (choices h) (λ d. one_if (is_free h (at h (first_frame g h x.frame + d) 0)) * w) (λ d. w)
    (λ d l. rw (o (at h (first_frame g h x.frame + d) 0) (mod-lt (first_frame g h x.frame + d) p.some_frame, omega (arith, one))) (one-mul w))
    ∙ sum_const (choices h) w
  where
    within : ℕ → ℕ
    within c = sum_below (choices h) (λ d. one_if (is_free h (at h (first_frame g h x.frame + d) c)) * w)

open_on : (T : ℕ) (g : Hop) (x : Spot) (hs : List Hop) → AllReady T hs → x.colour ≡ 0 → OneColour hs → EveryFrameFree hs → length (ways_on g x hs) ≡ later_choices hs
open_on T g x [] p z one o = refl
open_on T g x (h ∷ hs) p z one o =
    on_ways g x h hs
    ∙ sum_cong (nodes h) (λ i. one_if (is_allowed g h x (spot_at h i)) * length (ways_on h (spot_at h i) hs)) (λ i. one_if (is_allowed g h x (spot_at h i)) * later_choices hs)
    (λ i l. ap (λ (n : ℕ). one_if (is_allowed g h x (spot_at h i)) * n) (open_on T h (spot_at h i) hs p.1 (omega (arith, (spot_on h i l).1, one.0)) one.1 o.1))
    ∙ open_stage T g h x (later_choices hs) p.0 one.0 z o.0

pub ways_open : WaysOpen
ways_open T [] p one o = unfold route_ways schedules in refl
ways_open T (h ∷ hs) p one o =
    all_ways h hs
    ∙ sum_cong (nodes h) (λ k. one_if (is_free h (spot_at h k)) * length (ways_on h (spot_at h k) hs)) (λ k. one_if (is_free h (spot_at h k)) * later_choices hs)
    (λ k l. ap (λ (n : ℕ). one_if (is_free h (spot_at h k)) * n) (open_on T h (spot_at h k) hs p.1 (omega (arith, (spot_on h k l).1, one.0)) one.1 o.1))
    ∙ sum_times (nodes h) (later_choices hs) (λ k. one_if (is_free h (spot_at h k)))
    ∙ ap (λ (n : ℕ). n * later_choices hs) (count_all (nodes h) (λ k. is_free h (spot_at h k)) (λ k l. o.0 (spot_at h k) (spot_on h k l)) ∙ ap (λ (n : ℕ). h.frames * n) one.0 ∙ mul-one h.frames)

-- ---- THE BOUND: b to the power of the number of hops, where each hop has at most b spots
abbrev pub EachFew : ℕ → List Hop → Type 0
EachFew b [] = Unit {0}
EachFew b (h ∷ hs) = (nodes h ≤ b) × EachFew b hs

module _ (b : ℕ) where
  on_few : (g : Hop) (x : Spot) (hs : List Hop) → EachFew b hs → length (ways_on g x hs) ≤ b ^ length hs
  on_few g x [] p = omega (arith, pow-zero b)
  on_few g x (h ∷ hs) p =
      omega (
        arith,
        on_ways g x h hs,
        sum_most b (nodes h) (b ^ length hs) (λ i. is_allowed g h x (spot_at h i)) (λ i. length (ways_on h (spot_at h i) hs)) p.0 (λ i l. on_few h (spot_at h i) hs p.1),
        pow-suc b (length hs),
      )

  pub ways_few : (hops : List Hop) → EachFew b hops → route_ways hops ≤ b ^ length hops
  ways_few [] p = unfold route_ways schedules in omega arith
  ways_few (h ∷ hs) p =
      omega (
        arith,
        all_ways h hs,
        sum_most b (nodes h) (b ^ length hs) (λ k. is_free h (spot_at h k)) (λ k. length (ways_on h (spot_at h k) hs)) p.0 (λ k l. on_few h (spot_at h k) hs p.1),
        pow-suc b (length hs),
      )

-- at most 64 frames in 4 colours at each hop
pub nodes_few : (T : ℕ) (h : Hop) → HopReady T h → nodes h ≤ 256
nodes_few T h p = mul-le-mul {n₁ = h.frames} {m₁ = h.colours} {n₂ = 64} {m₂ = 4} p.few_frames p.few_colours

each_few : (T : ℕ) (hs : List Hop) → AllReady T hs → EachFew 256 hs
each_few T [] p = tt
each_few T (h ∷ hs) p = (nodes_few T h p.0, each_few T hs p.1)

pub on_within : (T : ℕ) (g : Hop) (x : Spot) (hs : List Hop) → AllReady T hs → length hs ≤ 7 → length (ways_on g x hs) ≤ 256 ^ 7
on_within T g x hs p l = le_trans (on_few 256 g x hs (each_few T hs p)) (pow-le-pow_right (omega arith) l)

pub ways_most : WaysMost
ways_most T hops l p = le_trans (ways_few 256 hops (each_few T hops p)) (pow-le-pow_right (omega arith) l)

-- THE STARRED ROUTES, computed by the rule
pub starred_ways : StarredWays
unfolding route_ways schedules starred reference reference_into least_hold gap hold hold_into may_hold may_turn is_free bit_of word_of
starred_ways = refl

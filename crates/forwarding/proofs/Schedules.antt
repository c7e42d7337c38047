-- The schedules of a route are the paths of its trellis, with their delays and keys; and the test
-- of a schedule. Assumes nothing.
use mathlib.Core.Path.{◌≡◌, refl, sym, ◌∙◌, ap, ap₂, subst}
use mathlib.Core.Bool.{Bool, true, false, false≢true, ◌&&◌}
use mathlib.Core.List.{List, [], ◌∷◌, ◌++◌, reverse, append-nil, append_assoc}
use mathlib.Core.Logic.{◌↔◌}
use Prim.Native.Nat.{ℕ, zero, suc, ◌+◌, ◌/◌, ◌<◌}
use native.Mathlib.Nat.{not-suc-le-zero, le_of_suc-le-suc}
use native.Mathlib.Omega.{arith}
use lib.Dec.{ltb}
use lib.ListN.{length, get_or}
use borrow.Author.Tests.{lt-ltb, ltb-true}
use Rattle.lists.specs.Order.{Precedes}
use Rattle.lists.proofs.Count.{and_both, both_and}
use Rattle.lists.proofs.Digits.{digit_first, precedes_same, digits_behind}
use Rattle.trellis.specs.Trellis.{never, after, cost_of, Trellis, entry, IsPath, path_cost, path_key}
use Rattle.trellis.proofs.Forwards.{Onward, onward_cost, onward_back, go_on, go_on_cost, go_on_key, FromStart, from_start}
use Rattle.forwarding.specs.declared.Hop.{Hop}
use Rattle.forwarding.specs.Forwarding.{Spot, IsOn, is_free, hold_into, is_allowed, delay}
use Rattle.forwarding.specs.Hops.{no_hop}
use Rattle.forwarding.specs.Schedule.{frames_of, GoesOn, IsSchedule, is_on, goes_on, is_schedule, TestTells, onward_delay, schedule_delay, going_back, schedule_key}
use Rattle.forwarding.specs.Route.{nodes, node_at, spot_at, nodes_on, spots_on, start_if, starts, stages, route_trellis, SchedulesArePaths}
use Rattle.forwarding.proofs.Spots.{spot_back, node_back, node_in_lem, spot_on}

-- ---- hop 0: a free frame is begun at, and no other, at no delay
start_free : (b : Bool) (c : ℕ) → start_if b ≡ after c → b ≡ true
start_free true c e = refl
start_free false c e = cc

start_cost : (b : Bool) → cost_of (start_if b) ≡ 0
start_cost true = refl
start_cost false = refl

-- ---- the later hops
module _ (T : ℕ) where
  on_steps : (g : Hop) (x : Spot) (hs : List Hop) (ys : List Spot) → x.colour < g.colours → GoesOn g x hs ys → Onward (node_at g x) (stages T g hs) (nodes_on hs ys)
  on_steps g x [] [] c o = tt
  on_steps g x [] (y ∷ ys) c o = absurd o
  on_steps g x (h ∷ hs) [] c o = absurd o
  on_steps g x (h ∷ hs) (y ∷ ys) c o =
      (node_in_lem h y o.0, ap₂ (is_allowed g h) (spot_back g x c) (spot_back h y o.0.1) ∙ o.1, on_steps h y hs ys o.0.1 o.2)

  steps_on : (g : Hop) (k : ℕ) (hs : List Hop) (is : List ℕ) → Onward k (stages T g hs) is → GoesOn g (spot_at g k) hs (spots_on hs is) × (nodes_on hs (spots_on hs is) ≡ is)
  steps_on g k [] [] o = (tt, refl)
  steps_on g k [] (i ∷ is) o = absurd o
  steps_on g k (h ∷ hs) [] o = absurd o
  steps_on g k (h ∷ hs) (i ∷ is) o =
      let u = steps_on h i hs is o.2 in
      ((spot_on h i o.0, o.1, u.0), ap₂ (λ (n : ℕ) (l : List ℕ). n ∷ l) (node_back h i) u.1)

  on_again : (g : Hop) (x : Spot) (hs : List Hop) (ys : List Spot) → GoesOn g x hs ys → spots_on hs (nodes_on hs ys) ≡ ys
  on_again g x [] [] o = refl
  on_again g x [] (y ∷ ys) o = absurd o
  on_again g x (h ∷ hs) [] o = absurd o
  on_again g x (h ∷ hs) (y ∷ ys) o = ap₂ (λ (z : Spot) (l : List Spot). z ∷ l) (spot_back h y o.0.1) (on_again h y hs ys o.2)

  same_hold : (g h : Hop) (x y : Spot) → x.colour < g.colours → y.colour < h.colours
      → hold_into g h (node_at g x / g.colours) (node_at h y / h.colours) ≡ hold_into g h x.frame y.frame
  same_hold g h x y c d = ap₂ (hold_into g h) (digit_first g.colours x.frame x.colour c) (digit_first h.colours y.frame y.colour d)

  steps_delay : (g : Hop) (x : Spot) (hs : List Hop) (ys : List Spot) → x.colour < g.colours → GoesOn g x hs ys
      → onward_cost (node_at g x) (stages T g hs) (nodes_on hs ys) ≡ onward_delay T g x hs ys
  steps_delay g x [] ys c o = refl
  steps_delay g x (h ∷ hs) [] c o = refl
  steps_delay g x (h ∷ hs) (y ∷ ys) c o =
      ap₂ ◌+◌ (ap (delay T h.frames) (same_hold g h x y c o.0.1)) (steps_delay h y hs ys o.0.1 o.2)

  -- a step back: the hold, the preceding frame, the preceding colour
  step_back : (g h : Hop) (x y : Spot) (hs : List Hop) (ys : List Spot) (t : List ℕ)
      → going_back g x (h ∷ hs) (y ∷ ys) ++ t ≡ going_back h y hs ys ++ (hold_into g h x.frame y.frame ∷ x.frame ∷ x.colour ∷ t)
  step_back g h x y hs ys t = append_assoc (going_back h y hs ys) (hold_into g h x.frame y.frame ∷ x.frame ∷ x.colour ∷ []) t

  -- two ways back and their tails: the trellis orders them as the rule does
  steps_back : (g : Hop) (x x' : Spot) (hs : List Hop) (ys ys' : List Spot) (s s' t t' : List ℕ) → x.colour < g.colours → x'.colour < g.colours → GoesOn g x hs ys → GoesOn g x' hs ys'
      → Precedes s s' ↔ Precedes t t'
      → Precedes (onward_back (node_at g x) (stages T g hs) (nodes_on hs ys) ++ s) (onward_back (node_at g x') (stages T g hs) (nodes_on hs ys') ++ s')
      ↔ Precedes (going_back g x hs ys ++ t) (going_back g x' hs ys' ++ t')
  steps_back g x x' [] ys ys' s s' t t' c c' o o' f = digits_behind g.colours x.frame x.colour x'.frame x'.colour s s' t t' c c' f
  steps_back g x x' (h ∷ hs) [] ys' s s' t t' c c' o o' f = absurd o
  steps_back g x x' (h ∷ hs) (y ∷ ys) [] s s' t t' c c' o o' f = absurd o'
  steps_back g x x' (h ∷ hs) (y ∷ ys) (y' ∷ ys') s s' t t' c c' o o' f =
      rw (
        append_assoc (onward_back (node_at h y) (stages T h hs) (nodes_on hs ys)) (hold_into g h (node_at g x / g.colours) (node_at h y / h.colours) ∷ node_at g x ∷ []) s,
        append_assoc (onward_back (node_at h y') (stages T h hs) (nodes_on hs ys')) (hold_into g h (node_at g x' / g.colours) (node_at h y' / h.colours) ∷ node_at g x' ∷ []) s',
        step_back g h x y hs ys t,
        step_back g h x' y' hs ys' t',
        same_hold g h x y c o.0.1,
        same_hold g h x' y' c' o'.0.1,
      )
      (steps_back h y y' hs ys ys'
      (hold_into g h x.frame y.frame ∷ node_at g x ∷ s) (hold_into g h x'.frame y'.frame ∷ node_at g x' ∷ s')
      (hold_into g h x.frame y.frame ∷ x.frame ∷ x.colour ∷ t) (hold_into g h x'.frame y'.frame ∷ x'.frame ∷ x'.colour ∷ t')
      o.0.1 o'.0.1 o.2 o'.2
      (precedes_same (hold_into g h x.frame y.frame) (hold_into g h x'.frame y'.frame) (node_at g x ∷ s) (node_at g x' ∷ s') (x.frame ∷ x.colour ∷ t) (x'.frame ∷ x'.colour ∷ t')
      (digits_behind g.colours x.frame x.colour x'.frame x'.colour s s' t t' c c' f)))

  module _ (h : Hop) (hs : List Hop) where
    abbrev start : Trellis
    start = entry (nodes h) (starts h)

    begins : (x : Spot) → IsOn h x → is_free h x ≡ true → starts h (node_at h x) ≡ after 0
    begins x o f = ap (λ (y : Spot). start_if (is_free h y)) (spot_back h x o.1) ∙ ap start_if f

    path : (xs : List Spot) → IsSchedule (h ∷ hs) xs → IsPath (route_trellis T (h ∷ hs)) (reverse (nodes_on (h ∷ hs) xs))
    path [] s = absurd s
    path (x ∷ ys) s =
        go_on start (stages T h hs) (node_at h x) [] (nodes_on hs ys) (node_in_lem h x s.0, (0, begins x s.0 s.1)) (on_steps h x hs ys s.0.1 s.2)

    read : (p : List ℕ) → IsPath (route_trellis T (h ∷ hs)) p → IsSchedule (h ∷ hs) (spots_on (h ∷ hs) (reverse p)) × (nodes_on (h ∷ hs) (spots_on (h ∷ hs) (reverse p)) ≡ reverse p)
    read p l =
        let w : FromStart (nodes h) (starts h) (stages T h hs) (reverse p) = from_start (nodes h) (starts h) (stages T h hs) p l in
        let u = steps_on h w.node hs w.rest w.goes_on_lem in
        subst (λ (q : List ℕ). IsSchedule (h ∷ hs) (spots_on (h ∷ hs) q) × (nodes_on (h ∷ hs) (spots_on (h ∷ hs) q) ≡ q)) (sym w.is) (
          (spot_on h w.node w.below, start_free (is_free h (spot_at h w.node)) w.begins.0 w.begins.1, u.0),
          ap₂ (λ (n : ℕ) (l : List ℕ). n ∷ l) (node_back h w.node) u.1,
        )

    again : (xs : List Spot) → IsSchedule (h ∷ hs) xs → spots_on (h ∷ hs) (nodes_on (h ∷ hs) xs) ≡ xs
    again [] s = absurd s
    again (x ∷ ys) s = ap₂ (λ (z : Spot) (l : List Spot). z ∷ l) (spot_back h x s.0.1) (on_again h x hs ys s.2)

    whole_delay : (x : Spot) (ys : List Spot) → IsSchedule (h ∷ hs) (x ∷ ys)
        → cost_of (starts h (node_at h x)) + onward_cost (node_at h x) (stages T h hs) (nodes_on hs ys) ≡ onward_delay T h x hs ys
    whole_delay x ys s = omega (arith, start_cost (is_free h (spot_at h (node_at h x))), steps_delay h x hs ys s.0.1 s.2)

    costs : (xs : List Spot) → IsSchedule (h ∷ hs) xs → path_cost (route_trellis T (h ∷ hs)) (reverse (nodes_on (h ∷ hs) xs)) ≡ schedule_delay T (h ∷ hs) xs
    costs [] s = absurd s
    costs (x ∷ ys) s = go_on_cost start (stages T h hs) (node_at h x) [] (nodes_on hs ys) (on_steps h x hs ys s.0.1 s.2) ∙ whole_delay x ys s

    key_is : (x : Spot) (ys : List Spot) → IsSchedule (h ∷ hs) (x ∷ ys)
        → path_key (route_trellis T (h ∷ hs)) (reverse (nodes_on (h ∷ hs) (x ∷ ys))) ≡ onward_delay T h x hs ys ∷ (onward_back (node_at h x) (stages T h hs) (nodes_on hs ys) ++ [])
    key_is x ys s =
        go_on_key start (stages T h hs) (node_at h x) [] (nodes_on hs ys) (on_steps h x hs ys s.0.1 s.2)
        ∙ ap (λ (d : ℕ). d ∷ (onward_back (node_at h x) (stages T h hs) (nodes_on hs ys) ++ [])) (whole_delay x ys s)

    keys : (xs zs : List Spot) → IsSchedule (h ∷ hs) xs → IsSchedule (h ∷ hs) zs
        → Precedes (path_key (route_trellis T (h ∷ hs)) (reverse (nodes_on (h ∷ hs) xs))) (path_key (route_trellis T (h ∷ hs)) (reverse (nodes_on (h ∷ hs) zs)))
        ↔ Precedes (schedule_key T (h ∷ hs) xs) (schedule_key T (h ∷ hs) zs)
    keys [] zs s u = absurd s
    keys (x ∷ ys) [] s u = absurd u
    keys (x ∷ ys) (z ∷ zs) s u =
        rw (key_is x ys s, key_is z zs u)
        (precedes_same (onward_delay T h x hs ys) (onward_delay T h z hs zs)
        (onward_back (node_at h x) (stages T h hs) (nodes_on hs ys) ++ []) (onward_back (node_at h z) (stages T h hs) (nodes_on hs zs) ++ []) (going_back h x hs ys) (going_back h z hs zs)
        (rw (append-nil (going_back h x hs ys), append-nil (going_back h z hs zs)) at
        (steps_back h x z hs ys zs [] [] [] [] s.0.1 u.0.1 s.2 u.2 (λ r. r, λ r. r))))

-- a route without hops has neither
no_path : (p : List ℕ) → IsPath (entry 0 (λ i. never)) p → ⊥
no_path [] l = l
no_path (i ∷ []) l = absurd (omega (arith, l.0))
no_path (i ∷ k ∷ p) l = l

-- THE SCHEDULES OF A ROUTE ARE THE PATHS OF ITS TRELLIS
pub schedules_paths : SchedulesArePaths
schedules_paths T [] = record {
  path = λ w s. absurd s;
  read = λ p l. absurd (no_path p l);
  there = λ p l. absurd (no_path p l);
  again = λ w s. absurd s;
  costs = λ w s. absurd s;
  keys = λ w v s u. absurd s;
}
schedules_paths T (h ∷ hs) = record {
  path = path T h hs;
  read = λ p l. (read T h hs p l).0;
  there = λ p l. (read T h hs p l).1;
  again = again T h hs;
  costs = costs T h hs;
  keys = keys T h hs;
}

-- ---- THE TEST OF A SCHEDULE TELLS SCHEDULES
told_in : (h : Hop) (x : Spot) → is_on h x ≡ true → IsOn h x
told_in h x e = let a = and_both (ltb x.frame h.frames) (ltb x.colour h.colours) e in (ltb-true x.frame h.frames a.0, ltb-true x.colour h.colours a.1)

in_told : (h : Hop) (x : Spot) → IsOn h x → is_on h x ≡ true
in_told h x o = both_and (ltb x.frame h.frames) (ltb x.colour h.colours) (lt-ltb x.frame h.frames o.0) (lt-ltb x.colour h.colours o.1)

told_on : (g : Hop) (k : Spot) (hs : List Hop) (is : List Spot) → goes_on g k hs is ≡ true → GoesOn g k hs is
told_on g k [] [] e = tt
told_on g k [] (i ∷ is) e = absurd (false≢true e)
told_on g k (h ∷ hs) [] e = absurd (false≢true e)
told_on g k (h ∷ hs) (i ∷ is) e =
    let a = and_both (is_on h i) (is_allowed g h k i && goes_on h i hs is) e in
    let b = and_both (is_allowed g h k i) (goes_on h i hs is) a.1 in
    (told_in h i a.0, b.0, told_on h i hs is b.1)

on_told : (g : Hop) (k : Spot) (hs : List Hop) (is : List Spot) → GoesOn g k hs is → goes_on g k hs is ≡ true
on_told g k [] [] o = refl
on_told g k [] (i ∷ is) o = absurd o
on_told g k (h ∷ hs) [] o = absurd o
on_told g k (h ∷ hs) (i ∷ is) o =
    both_and (is_on h i) (is_allowed g h k i && goes_on h i hs is) (in_told h i o.0)
    (both_and (is_allowed g h k i) (goes_on h i hs is) o.1 (on_told h i hs is o.2))

pub told_schedule : (hops : List Hop) (fs : List Spot) → is_schedule hops fs ≡ true → IsSchedule hops fs
told_schedule [] fs e = absurd (false≢true e)
told_schedule (h ∷ hs) [] e = absurd (false≢true e)
told_schedule (h ∷ hs) (k ∷ is) e =
    let a = and_both (is_on h k) (is_free h k && goes_on h k hs is) e in
    let b = and_both (is_free h k) (goes_on h k hs is) a.1 in
    (told_in h k a.0, b.0, told_on h k hs is b.1)

pub schedule_told : (hops : List Hop) (fs : List Spot) → IsSchedule hops fs → is_schedule hops fs ≡ true
schedule_told [] fs s = absurd s
schedule_told (h ∷ hs) [] s = absurd s
schedule_told (h ∷ hs) (k ∷ is) s =
    both_and (is_on h k) (is_free h k && goes_on h k hs is) (in_told h k s.0)
    (both_and (is_free h k) (goes_on h k hs is) s.1 (on_told h k hs is s.2))

pub test_tells : TestTells
test_tells hops fs = (told_schedule hops fs, schedule_told hops fs)

-- ---- each frame of a schedule is one of its hop
onward_frame : (g : Hop) (k : Spot) (hs : List Hop) (is : List Spot) → GoesOn g k hs is → (j : ℕ) → j < length hs → get_or (frames_of is) j 0 < (get_or hs j no_hop).frames
onward_frame g k [] is o j l = absurd (not-suc-le-zero l)
onward_frame g k (h ∷ hs) [] o j l = absurd o
onward_frame g k (h ∷ hs) (i ∷ is) o zero l = o.0.0
onward_frame g k (h ∷ hs) (i ∷ is) o (suc j) l = onward_frame h i hs is o.2 j (le_of_suc-le-suc l)

pub schedule_frame : (hops : List Hop) (fs : List Spot) → IsSchedule hops fs → (j : ℕ) → j < length hops → get_or (frames_of fs) j 0 < (get_or hops j no_hop).frames
schedule_frame [] fs s j l = absurd s
schedule_frame (h ∷ hs) [] s j l = absurd s
schedule_frame (h ∷ hs) (k ∷ is) s zero l = s.0.0
schedule_frame (h ∷ hs) (k ∷ is) s (suc j) l = onward_frame h k hs is s.2 j (le_of_suc-le-suc l)

-- ---- a schedule has a spot for each hop, each one of its hop's
abbrev pub no_spot : Spot
no_spot = record { frame = 0; colour = 0 }

onward_on : (g : Hop) (x : Spot) (hs : List Hop) (ys : List Spot) → GoesOn g x hs ys → (j : ℕ) → j < length hs → IsOn (get_or hs j no_hop) (get_or ys j no_spot)
onward_on g x [] ys o j l = absurd (not-suc-le-zero l)
onward_on g x (h ∷ hs) [] o j l = absurd o
onward_on g x (h ∷ hs) (y ∷ ys) o zero l = o.0
onward_on g x (h ∷ hs) (y ∷ ys) o (suc j) l = onward_on h y hs ys o.2 j (le_of_suc-le-suc l)

pub schedule_on : (hops : List Hop) (xs : List Spot) → IsSchedule hops xs → (j : ℕ) → j < length hops → IsOn (get_or hops j no_hop) (get_or xs j no_spot)
schedule_on [] xs s j l = absurd s
schedule_on (h ∷ hs) [] s j l = absurd s
schedule_on (h ∷ hs) (x ∷ ys) s zero l = s.0
schedule_on (h ∷ hs) (x ∷ ys) s (suc j) l = onward_on h x hs ys s.2 j (le_of_suc-le-suc l)

onward_long : (g : Hop) (x : Spot) (hs : List Hop) (ys : List Spot) → GoesOn g x hs ys → length ys ≡ length hs
onward_long g x [] [] o = refl
onward_long g x [] (y ∷ ys) o = absurd o
onward_long g x (h ∷ hs) [] o = absurd o
onward_long g x (h ∷ hs) (y ∷ ys) o = ap suc (onward_long h y hs ys o.2)

pub schedule_long : (hops : List Hop) (xs : List Spot) → IsSchedule hops xs → length xs ≡ length hops
schedule_long [] xs s = absurd s
schedule_long (h ∷ hs) [] s = absurd s
schedule_long (h ∷ hs) (x ∷ ys) s = ap suc (onward_long h x hs ys s.2)

-- What a schedule holds, field by field: no other file unfolds what is held over hops. Assumes nothing.
use mathlib.Core.Path.{◌≡◌, refl, ap, ap₂, ◌∙◌}
use mathlib.Core.Bool.{Bool, true, false, ◌&&◌}
use mathlib.Core.List.{List, [], ◌∷◌}
use Prim.Native.Nat.{ℕ}
use native.Mathlib.Omega.{arith}
use lib.ListN.{length, length-map}
use lib.Dec.{eqb}
use borrow.Author.Tests.{eq-eqb, eqb-true}
use Rattle.lists.proofs.Count as tests
use Rattle.places.specs.Places.{firsts}
use Rattle.places.proofs.Firsts.{so_many_back}
use Rattle.forwarding.specs.declared.Delay.{Delay}
use Rattle.forwarding.specs.declared.Held.{Held}
use Rattle.forwarding.specs.declared.Hop.{Hop}
use Rattle.forwarding.specs.Forwarding.{Spot, reference_into, least_hold, hold_into}
use Rattle.forwarding.specs.Schedule.{frames_of, colours_of, in_colours, IsSchedule}
use Rattle.forwarding.specs.Cycles.{next_cycle, onward_cycles, schedule_cycles}
use Rattle.forwarding.proofs.Spots.{colours_joined}
use Rattle.forwarding.proofs.Schedules.{schedule_long}
use Rattle.forwarding.proofs.Cycles.{cycle_per_hop}
use Rattle.network.specs.Network.{Topology}
use Rattle.ledger.specs.Lists.{same_list}
use Rattle.ledger.specs.Held.{Holding, held_over, spots_in, same_held, SpotsHeld, held_places, HeldStored}
use Rattle.ledger.specs.Sessions.{Session, hop_of, hops_of, HeldFree}
use Rattle.ledger.proofs.Lists.{same_list_lem, list_same}

-- over the hops of a route, a frame in its colour for each link
pub route_length : (net : Topology) (ss : List Session) (route : List ℕ) (xs : List Spot) → IsSchedule (hops_of net ss route) xs → length xs ≡ length route
route_length net ss route xs s = schedule_long (hops_of net ss route) xs s ∙ length-map route (hop_of net ss)

pub frames_length : (hops : List Hop) (xs : List Spot) → IsSchedule hops xs → length (frames_of xs) ≡ length hops
frames_length hops xs s = length-map xs (λ (x : Spot). x.frame) ∙ schedule_long hops xs s

pub colours_length : (hops : List Hop) (xs : List Spot) → IsSchedule hops xs → length (colours_of xs) ≡ length hops
colours_length hops xs s = length-map xs (λ (x : Spot). x.colour) ∙ schedule_long hops xs s

-- WHAT A SCHEDULE HOLDS TELLS ITS FRAMES IN THEIR COLOURS
pub spots_held : SpotsHeld
unfolding held_over spots_in
spots_held hops delay xs = colours_joined xs

-- ---- cycles do not go by which frames are free
module _ (net : Topology) (ss : List Session) where
  on_cycles : (r k c : ℕ) (route fs : List ℕ) → onward_cycles (hop_of net ss r) k c (hops_of net ss route) fs ≡ onward_cycles (hop_of net [] r) k c (hops_of net [] route) fs
  unfolding reference_into least_hold hold_into next_cycle
  on_cycles r k c [] fs = refl
  on_cycles r k c (l ∷ route) [] = refl
  on_cycles r k c (l ∷ route) (i ∷ fs) =
      let d : ℕ = next_cycle (hop_of net ss r) (hop_of net ss l) k i c in
      ap (λ (cs : List ℕ). d ∷ cs) (on_cycles l i d route fs)

  pub cycles_free : (route fs : List ℕ) → schedule_cycles (hops_of net ss route) fs ≡ schedule_cycles (hops_of net [] route) fs
  cycles_free [] fs = refl
  cycles_free (l ∷ route) [] = refl
  cycles_free (l ∷ route) (k ∷ fs) = ap (λ (cs : List ℕ). 0 ∷ cs) (on_cycles l k 0 route fs)

-- WHAT A SCHEDULE HOLDS DOES NOT GO BY WHICH FRAMES ARE FREE
pub held_free : HeldFree
unfolding held_over
held_free net ss route delay xs =
    ap (λ (cs : List ℕ). record { frames = frames_of xs; cycles = cs; delay = delay; colours = colours_of xs }) (cycles_free net ss route (frames_of xs))

-- two that agree in their lists
together : (delay : ℕ) {ds bs cs fs gs hs : List ℕ} → ds ≡ fs → bs ≡ gs → cs ≡ hs
    → ◌≡◌ {A = Holding} (record { frames = ds; cycles = bs; delay = delay; colours = cs }) (record { frames = fs; cycles = gs; delay = delay; colours = hs })
together delay {ds} {bs} {cs} {fs} {gs} {hs} p q r =
    ap₂ (λ (x y : List ℕ). record { frames = x; cycles = y; delay = delay; colours = cs }) p q
    ∙ ap (λ (z : List ℕ). record { frames = fs; cycles = gs; delay = delay; colours = z }) r

-- WHAT A SCHEDULE HOLDS, LAID INTO EIGHT PLACES AND READ BACK, IS THE SAME
pub held_stored : HeldStored
unfolding held_over
held_stored hops delay xs s few =
    together delay (so_many_back 8 (length hops) (frames_of xs) 0 (frames_length hops xs s) few)
    (so_many_back 8 (length hops) (schedule_cycles hops (frames_of xs)) 0 (cycle_per_hop hops xs s) few)
    (so_many_back 8 (length hops) (colours_of xs) 0 (colours_length hops xs s) few)

-- ---- the fields of what a schedule holds
pub frames_over : (hops : List Hop) (delay : ℕ) (xs : List Spot) → (held_over hops delay xs).frames ≡ frames_of xs
unfolding held_over
frames_over hops delay xs = refl

pub colours_over : (hops : List Hop) (delay : ℕ) (xs : List Spot) → (held_over hops delay xs).colours ≡ colours_of xs
unfolding held_over
colours_over hops delay xs = refl

pub delay_over : (hops : List Hop) (delay : ℕ) (xs : List Spot) → (held_over hops delay xs).delay ≡ delay
unfolding held_over
delay_over hops delay xs = refl

pub cycles_over : (hops : List Hop) (delay : ℕ) (xs : List Spot) → (held_over hops delay xs).cycles ≡ schedule_cycles hops (frames_of xs)
unfolding held_over
cycles_over hops delay xs = refl

-- and in eight places
pub places_over : (hops : List Hop) (delay : Delay) (xs : List Spot) (frames cycles colours : List ℕ) → frames ≡ firsts 8 (frames_of xs) 0
    → cycles ≡ firsts 8 (schedule_cycles hops (frames_of xs)) 0 → colours ≡ firsts 8 (colours_of xs) 0
    → ◌≡◌ {A = Held} (record { frames = frames; cycles = cycles; delay = delay; colours = colours }) (held_places (held_over hops delay.0 xs))
unfolding held_over
places_over hops delay xs frames cycles colours e w c =
    ap₂ (λ (fs cs : List ℕ). record { frames = fs; cycles = cs; delay = delay; colours = colours }) e w
    ∙ ap (λ (ds : List ℕ). record { frames = firsts 8 (frames_of xs) 0; cycles = firsts 8 (schedule_cycles hops (frames_of xs)) 0; delay = delay; colours = ds }) c

-- ---- the test whether two hold the same
pub same_is : (a b : Holding) → same_held a b ≡ true → a ≡ b
unfolding same_held
same_is a b e =
    let last : Bool = eqb a.delay b.delay && same_list eqb a.colours b.colours in
    let later : Bool = same_list eqb a.cycles b.cycles && last in
    let both = tests.and_both (same_list eqb a.frames b.frames) later e in
    let rest = tests.and_both (same_list eqb a.cycles b.cycles) last both.1 in
    let ends = tests.and_both (eqb a.delay b.delay) (same_list eqb a.colours b.colours) rest.1 in
    made (numbers a.frames b.frames both.0) (numbers a.cycles b.cycles rest.0) (eqb-true a.delay b.delay ends.0) (numbers a.colours b.colours ends.1)
  where
    numbers : (xs ys : List ℕ) → same_list eqb xs ys ≡ true → xs ≡ ys
    numbers xs ys t = same_list_lem eqb eqb-true xs ys t

    made : a.frames ≡ b.frames → a.cycles ≡ b.cycles → a.delay ≡ b.delay → a.colours ≡ b.colours → a ≡ b
    made p q r t =
        together a.delay p q t
        ∙ ap (λ (d : ℕ). record { frames = b.frames; cycles = b.cycles; delay = d; colours = b.colours }) r

itself : (xs : List ℕ) → same_list eqb xs xs ≡ true
itself xs = list_same eqb (λ x. eq-eqb x x refl) xs

pub is_same : (a b : Holding) → a ≡ b → same_held a b ≡ true
is_same a b e = rw e (all b)
  where
    all : (h : Holding) → same_held h h ≡ true
    all h = unfold same_held in rw (itself h.frames, itself h.cycles, itself h.colours, eq-eqb h.delay h.delay refl)

-- ---- frames and colours that are as many are those of their list
pub frames_joined : (fs cs : List ℕ) → length fs ≡ length cs → frames_of (in_colours fs cs) ≡ fs
frames_joined [] cs e = refl
frames_joined (i ∷ fs) [] e = let z : ◌≡◌ {A = ℕ} 0 1 = omega (arith, e) in absurd (omega arith)
frames_joined (i ∷ fs) (c ∷ cs) e = ap (λ (l : List ℕ). i ∷ l) (frames_joined fs cs (omega (arith, e)))

pub colours_joined_back : (fs cs : List ℕ) → length fs ≡ length cs → colours_of (in_colours fs cs) ≡ cs
colours_joined_back [] [] e = refl
colours_joined_back [] (c ∷ cs) e = let z : ◌≡◌ {A = ℕ} 0 1 = omega (arith, e) in absurd (omega arith)
colours_joined_back (i ∷ fs) [] e = let z : ◌≡◌ {A = ℕ} 0 1 = omega (arith, e) in absurd (omega arith)
colours_joined_back (i ∷ fs) (c ∷ cs) e = ap (λ (l : List ℕ). c ∷ l) (colours_joined_back fs cs (omega (arith, e)))

-- what is held is what its own frames in their colours hold exactly when the cycles and the delay are the same
pub same_held_lem : (hops : List Hop) (held : Holding) (delay : ℕ) → length held.frames ≡ length held.colours → same_held held (held_over hops delay (spots_in held))
    ≡ (same_list eqb held.cycles (schedule_cycles hops held.frames) && eqb held.delay delay)
unfolding held_over spots_in same_held
same_held_lem hops held delay e =
    rw (frames_joined held.frames held.colours e, colours_joined_back held.frames held.colours e, itself held.frames, itself held.colours)
    (ap (λ (b : Bool). same_list eqb held.cycles (schedule_cycles hops held.frames) && b) (and_true (eqb held.delay delay)))
  where
    and_true : (b : Bool) → (b && true) ≡ b
    and_true true = refl
    and_true false = refl

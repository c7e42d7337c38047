-- The bounds of a schedule's delay (document 01) and of the count (W-211). Assumes nothing.
use mathlib.Core.Path.{◌≡◌, refl, ap, ap₂}
use mathlib.Core.List.{List, [], ◌∷◌}
use Prim.Native.Nat.{ℕ, ◌+◌, ◌*◌, ◌≤◌}
use native.Mathlib.Nat.{mul-le-mul, mul-one}
use native.Mathlib.Omega.{arith}
use lib.ListN.{length}
use Rattle.trellis.specs.Trellis.{Trellis, entry, ◌▸◌, grow, width}
use Rattle.trellis.specs.Considered.{considered}
use Rattle.trellis.proofs.Bound.{step_bound}
use Rattle.forwarding.specs.declared.Hop.{Hop}
use Rattle.forwarding.specs.Forwarding.{Spot, choices, turn_choices}
use Rattle.forwarding.specs.Hops.{HopReady, AllReady}
use Rattle.forwarding.specs.Schedule.{GoesOn, onward_delay, bound_from, transition_bound, OneColour, plain_from}
use Rattle.forwarding.specs.Route.{nodes, spot_at, starts, stage, stages, transitions}
use Rattle.forwarding.specs.LeastDelay.{CountBound, BoundOneColour, DelayOneHop, DelayWithin, DelayBound}
use Rattle.forwarding.proofs.Transitions.{allowed_cap, allowed_narrow}
use Rattle.forwarding.proofs.Counted.{count_only, transitions_counted}

grown_bound : (T : ℕ) (t : Trellis) (g : Hop) (hs : List Hop) → width t ≡ nodes g → AllReady T hs
    → considered (grow t (stages T g hs)) ≤ considered t + bound_from g hs
grown_bound T t g [] e p = omega arith
grown_bound T t g (h ∷ hs) e p =
    omega (
      arith,
      grown_bound T (t ▸ stage T g h) h hs refl p.1,
      step_bound t (stage T g h) (choices h * turn_choices h) (λ k l. allowed_narrow T g h (spot_at g k) p.0),
      ap (λ (x : ℕ). x * (choices h * turn_choices h)) e,
    )

transitions_bound : (T : ℕ) (hops : List Hop) → AllReady T hops → transitions T hops ≤ transition_bound hops
transitions_bound T [] p = omega arith
transitions_bound T (h ∷ hs) p = omega (arith, grown_bound T (entry (nodes h) (starts h)) h hs refl p.1)

-- THE COUNT'S BOUND
pub count_bound : CountBound
count_bound T hops n p c = omega (arith, transitions_bound T hops p, count_only hops n (transitions T hops) c (transitions_counted T hops))

-- FOR ROUTES OF ONE COLOUR
one_turn : (T : ℕ) (h : Hop) → HopReady T h → h.colours ≡ 1 → turn_choices h ≡ 1
unfolding turn_choices
one_turn T h p e = omega (arith, p.turns, e)

plain_from_lem : (T : ℕ) (g : Hop) (hs : List Hop) → AllReady T hs → g.colours ≡ 1 → OneColour hs → bound_from g hs ≡ plain_from g hs
plain_from_lem T g [] p e o = refl
plain_from_lem T g (h ∷ hs) p e o =
    ap₂ ◌+◌ (rw (e, one_turn T h p.0 o.0) (ap₂ ◌*◌ (mul-one g.frames) (mul-one (choices h)))) (plain_from_lem T h hs p.1 o.0 o.1)

pub bound_one_colour : BoundOneColour
bound_one_colour T [] p o = refl
bound_one_colour T (h ∷ hs) p o = plain_from_lem T h hs p.1 o.0 o.1

onward_cap : (T : ℕ) (g : Hop) (k : Spot) (hs : List Hop) (is : List Spot) → AllReady T hs → GoesOn g k hs is → onward_delay T g k hs is ≤ length hs * T
onward_cap T g k [] is p o = omega arith
onward_cap T g k (h ∷ hs) [] p o = absurd o
onward_cap T g k (h ∷ hs) (i ∷ is) p o = omega (arith, allowed_cap T g h k i p.0 o.1, onward_cap T h i hs is p.1 o.2)

-- "0 for one hop"
pub delay_one_hop : DelayOneHop
delay_one_hop T h [] = refl
delay_one_hop T h (k ∷ is) = refl

-- THE DELAY'S BOUND: a cycle for each later hop
pub delay_within : DelayWithin
delay_within T h hs [] p s = absurd s
delay_within T h hs (k ∷ is) p s = onward_cap T h k hs is p s.2

pub delay_bound : DelayBound
delay_bound T [] fs c l p s = absurd s
delay_bound T (h ∷ hs) fs c l p s =
    omega (arith, delay_within T h hs fs p.1 s, mul-le-mul {n₁ = length hs} {m₁ = T} {n₂ = 7} {m₂ = 960} (omega arith) c)

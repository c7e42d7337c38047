-- The bound of the number of ways over links of one colour, at most 64 frames each.
-- Assumes nothing.
use mathlib.Core.Path.{◌≡◌, ◌∙◌, ap}
use mathlib.Core.List.{List, [], ◌∷◌}
use Prim.Native.Nat.{ℕ, ◌*◌, ◌≤◌}
use native.Mathlib.Nat.{le_trans, mul-one, pow-le-pow_right}
use native.Mathlib.Omega.{arith}
use Rattle.forwarding.specs.declared.Hop.{Hop}
use Rattle.forwarding.specs.Hops.{HopReady, AllReady}
use Rattle.forwarding.specs.Schedule.{OneColour}
use Rattle.forwarding.specs.Route.{nodes}
use Rattle.forwarding.specs.Ways.{WaysOneColour}
use Rattle.forwarding.proofs.Ways.{EachFew, ways_few}

nodes_plain : (T : ℕ) (h : Hop) → HopReady T h → h.colours ≡ 1 → nodes h ≤ 64
nodes_plain T h p one = omega (arith, ap (λ (n : ℕ). h.frames * n) one ∙ mul-one h.frames, p.few_frames)

each_plain : (T : ℕ) (hs : List Hop) → AllReady T hs → OneColour hs → EachFew 64 hs
each_plain T [] p one = tt
each_plain T (h ∷ hs) p one = (nodes_plain T h p.0 one.0, each_plain T hs p.1 one.1)

-- AT MOST 64 TO THE POWER 8, over at most eight links
pub ways_one_colour : WaysOneColour
ways_one_colour T hops l p one = le_trans (ways_few 64 hops (each_plain T hops p one)) (pow-le-pow_right (omega arith) l)

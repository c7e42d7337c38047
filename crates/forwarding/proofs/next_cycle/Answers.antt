-- `forwarding::next_cycle` meets its contract. Assumes nothing.
use mathlib.Core.Path.{ap₂}
use Prim.Native.Nat.{◌+◌}
use native.Mathlib.Omega.{arith}
use Rattle.forwarding.proofs.Cycles.{reaches, same_cycle, cycle_after}
use Rattle.forwarding.proofs.next_cycle.Goals as goal

pub overflow_add-from : goal.overflow_add-from
overflow_add-from c = let a = c.args in
    omega (arith, reaches a.before a.hop a.k a.i a.cycle c.requires.0 c.requires.2 c.requires.4, c.reference_frame-from.ensures, c.hold_into-hold.ensures)

pub returns-then-from-hold : goal.returns-then-from-hold
returns-then-from-hold c = let a = c.args in
    same_cycle a.before a.hop a.k a.i a.cycle _ (ap₂ ◌+◌ c.reference_frame-from.ensures c.hold_into-hold.ensures) c.if-from-hold.true

pub returns : goal.returns
returns c = let a = c.args in
    cycle_after a.before a.hop a.k a.i a.cycle _ (ap₂ ◌+◌ c.reference_frame-from.ensures c.hold_into-hold.ensures) c.if-from-hold.false

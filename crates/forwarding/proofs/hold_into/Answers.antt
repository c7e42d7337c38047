-- `forwarding::hold_into` meets its contract. Assumes nothing.
use native.Mathlib.Omega.{arith}
use Rattle.forwarding.proofs.Holds.{from_within, hold_counted}
use Rattle.forwarding.proofs.hold_into.Goals as goal

pub overflow_add-result-2 : goal.overflow_add-result-2
overflow_add-result-2 c = let a = c.args in
    omega (arith, from_within a.before a.hop a.k a.i _ _ c.reference_frame-from.ensures c.least_hold-least.ensures c.requires.0 c.requires.2 c.requires.4)

pub overflow_sub-result : goal.overflow_sub-result
overflow_sub-result c = let a = c.args in
    omega (arith, from_within a.before a.hop a.k a.i _ _ c.reference_frame-from.ensures c.least_hold-least.ensures c.requires.0 c.requires.2 c.requires.4)

pub returns : goal.returns
returns c = let a = c.args in
    hold_counted a.before a.hop a.k a.i _ _ c.reference_frame-from.ensures c.least_hold-least.ensures c.requires.0 c.requires.2 c.requires.4

use Prim.Native.Nat.{◌-◌}
use native.Mathlib.Omega.{arith}
use Rattle.numbers.proofs.Loops.{got_none, got_more, got_room}
use Rattle.numbers.proofs.read_number.Goals as goal

pub loop-i-init : goal.loop-i-init
loop-i-init c = got_none _ _

pub overflow_mul-x : goal.overflow_mul-x
overflow_mul-x c = omega (arith, got_room _ _ _ _ c.loop-i-test.true c.requires.1 c.loop-i.invariant)

pub overflow_add-x : goal.overflow_add-x
overflow_add-x c = omega (arith, got_room _ _ _ _ c.loop-i-test.true c.requires.1 c.loop-i.invariant, c.from.ensures, c.type_inv.s (c.loop-i.i - 1))

pub loop-i-preserved : goal.loop-i-preserved
loop-i-preserved c = got_more _ _ _ _ _ c.loop-i-test.true c.loop-i.invariant c.from.ensures (omega (arith, c.from.ensures, c.type_inv.s (c.loop-i.i - 1)))

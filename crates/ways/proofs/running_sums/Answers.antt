use mathlib.Core.Path.{◌≡◌}
use Prim.Native.Nat.{◌+◌}
use native.Mathlib.Omega.{arith}
use lib.ListN.{get_or}
use Rattle.ways.specs.Inner.{free_ways}
use Rattle.ways.proofs.Running.{sum_more, sum_small}
use Rattle.ways.proofs.running_sums.Goals as goal

pub overflow_add-sum : goal.overflow_add-sum
overflow_add-sum c = let l = c.loop-i in
    let a = c.args in
    let f = free_ways (get_or a.hop.free 0 0) a.row.now in
    let small = sum_small a.hop.frames (get_or a.hop.free 0 0) a.row.now c.requires.0 c.requires.1 (l.i + 1) (omega arith) in
    record { fits = omega (arith, sum_more f l.i l.sum c.if_free-sum.result l.invariant.1 (rw c.from-at.ensures at c.if_free-sum.ensures), small) }

pub returns : goal.returns
returns c = let l = c.loop-i in
    let a = c.args in
    let e : l.i ≡ a.hop.frames = omega arith in
    (rw e at l.invariant.0, sum_small a.hop.frames (get_or a.hop.free 0 0) a.row.now c.requires.0 c.requires.1 a.hop.frames (omega arith))
